-- The card that a format leaves, and that it is clean.
use Prim.Native.Nat.{ℕ, ◌+◌, ◌-◌, ◌*◌, ◌/◌, ◌%◌, ◌≤◌, ◌<◌}
use native.Mathlib.Omega.{arith}
use mathlib.Core.Path.{◌≡◌, refl, sym, ap, ◌∙◌}
use mathlib.Core.Logic.{inl}
use mathlib.Core.Bool.{true, not}
use mathlib.Core.List.{[], ◌∷◌, ◌++◌, map}
use lib.Dec.{ltb}
use borrow.Author.Tests.{lt-ltb, le-ltb}
use Rattle.model.specs.Bytes.{Bytes, zeros}
use Rattle.model.specs.Scan.{range}
use Rattle.model.specs.Sector.{Card, Store, clip, store, put, after}
use Rattle.model.specs.Boot.{layout, arrange, boot_ok}
use Rattle.model.specs.Fat.{fat1_of, fat2_of, entry, fats_agree}
use Rattle.model.specs.Chain.{cluster_sector}
use Rattle.model.specs.Root.{root_place, slot_at, first_bytes, root_ok}
use Rattle.model.specs.Log.{area, run, run_ok, log_of}
use Rattle.model.specs.Pending.{pending}
use Rattle.model.specs.Ground.{granted}
use Rattle.model.specs.Volume.{mount, locate, clean}
use Rattle.model.specs.Promises.{Shape}
use Rattle.model.specs.declared.Area.{Area}
use Rattle.model.specs.declared.Fields.{Fields}
use Rattle.model.specs.declared.Layout.{Layout}
use Rattle.model.specs.declared.Pending.TheVariants as Pending
use Rattle.model.specs.declared.Ground.TheVariants as Ground
use Rattle.model.proofs.All.{all_image}
use Rattle.model.proofs.Indices.{indices_all0, indices_has0}
use Rattle.model.proofs.Cards.{clip_clip, put_in, put_out, after_snoc}
use Rattle.model.proofs.Changes.{covers_image, after_is}
use Rattle.model.proofs.Fats.{entry_clip, agree_of}
use Rattle.model.proofs.Order.{ordered_ok}
use Rattle.model.proofs.Pendings.{Quiet, quiet_zeros, quiet_calm}
use Rattle.model.proofs.Grounds.{passed}
use Rattle.model.proofs.Volumes.{layout_of, area_of, Fit, clean_same}
use Rattle.operations.specs.Program.{stores}
use Rattle.formatting.specs.Fresh.{fresh_boot, fresh_fat, fresh_entry}
use Rattle.formatting.specs.Format.{form_ok, fresh_volume, fresh_table, fresh_tables, format_stores}
use Rattle.formatting.proofs.Boot.{Stands, layout_read, boot_read}
use Rattle.formatting.proofs.Fat.{fresh_read, run_is, run_fine}
use Rattle.formatting.proofs.Form.{plain, sized, some_log, short_log, few_log, form_shape}

-- The sectors that are stored after the boot sector's.
abbrev pub tables : Layout → ℕ → ℕ
tables l n = l.start - l.fat1 + n * l.factor

-- A card with a fresh boot sector, and fresh tables from FAT1 to the log's last sector.
pub record Fresh (f : Fields) (n : ℕ) (x : Card) : Type 0 where
  pub boot : x 0 ≡ clip (fresh_boot f)
  pub rest : (k : ℕ) → k < tables (arrange f) n → x ((arrange f).fat1 + k) ≡ clip (fresh_table (arrange f) n k)

-- The tables that are stored: at sector l.fat1 + k, the k-th.
module _ (l : Layout) (n : ℕ) (c : Card) where
  pub table_stored : (k : ℕ) → k < tables l n → after (fresh_tables l n) c (l.fat1 + k) ≡ clip (fresh_table l n k)
  unfolding fresh_tables
  table_stored k less =
      after_is (l.fat1 + k) (clip (fresh_table l n k)) (map st (range 0 (tables l n))) c
      (all_image (λ s. l.fat1 + k ≡ s.sector → clip s.bytes ≡ clip (fresh_table l n k)) st (range 0 (tables l n))
      (indices_all0 (λ j. true) (tables l n) (λ j. l.fat1 + k ≡ l.fat1 + j → clip (clip (fresh_table l n j)) ≡ clip (fresh_table l n k))
      (λ j lt _ e. let same : j ≡ k = omega arith in clip_clip (fresh_table l n j) ∙ ap (λ (i : ℕ). clip (fresh_table l n i)) same)))
      (inl (covers_image st (l.fat1 + k) k (range 0 (tables l n)) refl (indices_has0 (λ j. true) (tables l n) k less refl)))
    where
      st : ℕ → Store
      st k = store (l.fat1 + k) (fresh_table l n k)

pub finished_fresh : (f : Fields) (n : ℕ) (c : Card) → 1 ≤ (arrange f).fat1 → Fresh f n (after (stores (format_stores f n)) c)
unfolding format_stores after
finished_fresh f n c one = record {
  boot = split ∙ put_in _ (store 0 (fresh_boot f)) 0 refl ∙ clip_clip (fresh_boot f);
  rest = λ k less. ap (λ (y : Card). y ((arrange f).fat1 + k)) last
      ∙ put_out (after (fresh_tables (arrange f) n) (put c (store 0 zeros))) (store 0 (fresh_boot f)) ((arrange f).fat1 + k) (λ e. omega arith)
      ∙ table_stored (arrange f) n (put c (store 0 zeros)) k less;
}
  where
    last : after (fresh_tables (arrange f) n ++ store 0 (fresh_boot f) ∷ []) (put c (store 0 zeros))
        ≡ put (after (fresh_tables (arrange f) n) (put c (store 0 zeros))) (store 0 (fresh_boot f))
    last = after_snoc (fresh_tables (arrange f) n) (store 0 (fresh_boot f)) (put c (store 0 zeros))

    split : after (fresh_tables (arrange f) n ++ store 0 (fresh_boot f) ∷ []) (put c (store 0 zeros)) 0
        ≡ put (after (fresh_tables (arrange f) n) (put c (store 0 zeros))) (store 0 (fresh_boot f)) 0
    split = ap (λ (y : Card). y 0) last

module _ (f : Fields) (n : ℕ) (ok : form_ok f n ≡ true) (x : Card) (fresh : Fresh f n x) where
  abbrev l : Layout
  l = arrange f

  abbrev log : Area
  log = area l (record { start = 2; size = n })

  sh : Shape l
  sh = form_shape f n ok

  -- ---- its regions

  at_table : (k s : ℕ) → s ≡ l.fat1 + k → k < tables l n → x s ≡ clip (fresh_table l n k)
  at_table k s e less = ap x e ∙ fresh.rest k less

  pub fat1_is : (s : ℕ) → s < l.fatsize → fat1_of l x s ≡ clip (fresh_fat n s)
  unfolding fresh_table
  fat1_is s less = fresh.rest s (omega (arith, sh)) ∙ rw (lt-ltb s l.fatsize less)

  pub fat2_is : (s : ℕ) → s < l.fatsize → fat2_of l x s ≡ clip (fresh_fat n s)
  unfolding fresh_table
  fat2_is s less =
      let k : l.fatsize + s - l.fatsize ≡ s = omega arith in
      at_table (l.fatsize + s) (l.fat2 + s) (omega (arith, sh)) (omega (arith, sh))
      ∙ rw (le-ltb (l.fatsize + s) l.fatsize (omega arith), lt-ltb (l.fatsize + s) (2 * l.fatsize) (omega arith), k)

  zero_at : (k s : ℕ) → s ≡ l.fat1 + k → 2 * l.fatsize ≤ k → k < tables l n → x s ≡ clip zeros
  unfolding fresh_table
  zero_at k s e past less = at_table k s e less ∙ rw (le-ltb k l.fatsize (omega arith), le-ltb k (2 * l.fatsize) past)

  pub root_is : (r : ℕ) → r < l.entries / 16 → x (root_place l r) ≡ clip zeros
  root_is r less = zero_at (2 * l.fatsize + r) (l.root + r) (omega (arith, sh)) (omega arith) (omega (arith, sh))

  pub log_is : (i : ℕ) → i < log.sectors → log_of log x i ≡ clip zeros
  unfolding area cluster_sector
  log_is i less = zero_at (l.start - l.fat1 + i) (l.start + 0 * l.factor + i) (omega (arith, sh)) (omega (arith, sh)) (omega (arith, sh))

  pub slot_is : (k j : ℕ) → k < l.entries → j < 32 → slot_at l x k j ≡ 0
  unfolding slot_at
  slot_is k j less small = ap (λ (b : Bytes). b (32 * (k % 16) + j)) (root_is (k / 16) (omega (arith, sh)))

  -- ---- the grounds, one by one

  pub entry_is : (k : ℕ) → k < 2 + l.clusters → entry (fat1_of l x) k ≡ fresh_entry n k
  entry_is k less = entry_clip (fresh_fat n) (fat1_of l x) k (fat1_is (k / 256) (omega (arith, sh))) ∙ fresh_read n k

  few : n ≤ l.clusters
  few = omega (arith, few_log f n ok, sh)

  marks : run l (fat1_of l x) ≡ record { start = 2; size = n }
  marks = run_is l n (fat1_of l x) (λ k lo hi. entry_is k hi) few (some_log f n ok)

  marks_fine : run_ok l (fat1_of l x) (run l (fat1_of l x)) ≡ true
  unfolding arrange
  marks_fine = run_fine l n (fat1_of l x) (λ k lo hi. entry_is k hi) few (some_log f n ok) (short_log f n ok)

  rooted : root_ok l.entries (first_bytes l x) ≡ true
  rooted = ordered_ok l.entries (first_bytes l x) 0 (record {
    within = omega arith;
    below = λ k less. absurd (omega arith);
    above = λ k lo hi. slot_is k 0 hi (omega arith);
  })

  calm : pending l log x ≡ Pending.Nothing
  unfolding pending
  calm = quiet_calm l.entries _ log (log_of log x) (λ i less. quiet i less)
    where
      quiet : (i : ℕ) → i < log.sectors → Quiet (log_of log x i)
      quiet i less = rw (log_is i less) quiet_zeros

  agree : fats_agree l x ≡ true
  agree = agree_of l x (λ s less. fat1_is s less ∙ sym (fat2_is s less))

  module _ (st : Stands f) (size : ℕ) (room : 512 * f.total ≤ size) where
    laid : layout_of x ≡ l
    unfolding fresh_boot
    laid = ap layout fresh.boot ∙ layout_read f _ st

    some_sectors : 1 ≤ f.total
    unfolding arrange
    some_sectors = let d : l.start + l.clusters * l.factor ≤ f.total = sh.data_end in omega (arith, sh)

    placed : area_of x ≡ log
    placed = ap (λ m. area m (run m (fat1_of m x))) laid ∙ ap (area l) marks

    fits : Fit size x
    unfolding mount locate fresh_boot arrange
    fits = record {
      mounts = passed Ground.Short _ _ (le-ltb size 512 (omega (arith, some_sectors)))
          ∙ passed Ground.Boot _ _ (ap not (ap boot_ok fresh.boot ∙ boot_read f _ st (plain f n ok) (sized f n ok)))
          ∙ passed Ground.Window _ _ (ap (λ m. ltb size (512 * m.total)) laid ∙ le-ltb size (512 * f.total) room);
      locates = passed Ground.Logarea _ _ (ap (λ m. not (run_ok m (fat1_of m x) (run m (fat1_of m x)))) laid ∙ ap not marks_fine);
    }

    -- The card is clean, with the volume that was asked for.
    pub fresh_clean : clean (record { size = size; card = x }) ≡ granted (fresh_volume f n)
    fresh_clean =
        clean_same size x x (record { boot = refl; marks = λ k lo hi. refl }) fits
        (ap (λ m. root_ok m.entries (first_bytes m x)) laid ∙ rooted)
        ((λ t. pending (laid t) (placed t) x) ∙ calm)
        (ap (λ m. fats_agree m x) laid ∙ agree)
        ∙ (λ t. granted (record { layout = laid t; log = placed t; pending = Pending.Nothing }))
