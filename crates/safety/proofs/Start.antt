-- The clean card that a call starts from: its regions, its FATs, its log.
use Prim.Native.Nat.{ℕ, ◌+◌, ◌*◌, ◌/◌, ◌%◌, ◌≤◌, ◌<◌}
use native.Mathlib.Omega.{arith}
use mathlib.Core.Path.{◌≡◌, sym, ap, ◌∙◌}
use mathlib.Core.Bool.{true, false}
use Rattle.model.specs.Bytes.{Bytes, part}
use Rattle.model.specs.Sector.{Card}
use Rattle.model.specs.Boot.{layout, arrange, fields}
use Rattle.model.specs.Fat.{Fat, is_reserved, fat1_of, fat2_of}
use Rattle.model.specs.Root.{root_place, slot_at, root_ok, first_bytes, end_slot}
use Rattle.model.specs.Log.{marked, run_ok, run, log_of}
use Rattle.model.specs.Pending.{seen_end, pending, is_broken}
use Rattle.model.specs.Ground.{granted}
use Rattle.model.specs.Volume.{examine}
use Rattle.model.specs.Promises.{Shape}
use Rattle.model.specs.declared.Layout.{Layout}
use Rattle.model.specs.declared.Pending.{Pending}
use Rattle.operations.specs.Plan.{recover_stores}
use Rattle.operations.specs.Calls.{plan, recover}
use Rattle.safety.specs.Cuts.{recovery}
use Rattle.model.proofs.Numbers.{le_below}
use Rattle.model.proofs.Changes.{Clipped}
use Rattle.model.proofs.Fats.{entry_same, agree_at}
use Rattle.model.proofs.Order.{Ordered, ordered, ordered_ok, ordered_same}
use Rattle.model.proofs.Pendings.{Quiet, calm_quiet}
use Rattle.model.proofs.Grounds.{then}
use Rattle.model.proofs.Volumes.{Clean, layout_of, area_of, Alike, window, volume_of, examine_same, fit_shape, first_fat, fit_run, area_low, area_high}
use Rattle.model.proofs.Volumes.{area_some, area_few}

-- A clean card of bytes.
pub record Start (size : ℕ) (c : Card) : Type 0 where
  pub clean : Clean size c
  pub clipped : Clipped c
  pub small : (n j : ℕ) → c n j < 256

-- ---- regions

-- The sectors that hold still until a group's store is on the card: the boot sector, FAT1, the root directory.
pub data Fixed (l : Layout) (n : ℕ) : Type 0 where
  boot : n ≡ 0 → Fixed l n
  fat1 : (s : ℕ) → s < l.fatsize → n ≡ l.fat1 + s → Fixed l n
  root : (r : ℕ) → r < l.entries / 16 → n ≡ root_place l r → Fixed l n

-- The sectors of the FATs and the root directory.
pub data Table (l : Layout) (n : ℕ) : Type 0 where
  fat1 : (s : ℕ) → s < l.fatsize → n ≡ l.fat1 + s → Table l n
  fat2 : (s : ℕ) → s < l.fatsize → n ≡ l.fat2 + s → Table l n
  root : (r : ℕ) → r < l.entries / 16 → n ≡ root_place l r → Table l n

-- A data sector outside the log.
pub record Clear (c : Card) (n : ℕ) : Type 0 where
  pub in_data : (layout_of c).start ≤ n
  pub no_log : (i : ℕ) → i < (area_of c).sectors → (area_of c).sector + i ≡ n → ⊥
  pub inside : n < (layout_of c).total

module _ (l : Layout) (sh : Shape l) where
  pub fat2_free : (s n : ℕ) → s < l.fatsize → n ≡ l.fat2 + s → Fixed l n → ⊥
  fat2_free s n less e (Fixed.boot q) = omega (arith, sh)
  fat2_free s n less e (Fixed.fat1 r k q) = omega (arith, sh)
  fat2_free s n less e (Fixed.root r k q) = omega (arith, sh)

  pub data_free : (n : ℕ) → l.start ≤ n → Fixed l n → ⊥
  data_free n w (Fixed.boot q) = omega (arith, sh)
  data_free n w (Fixed.fat1 r k q) = omega (arith, sh)
  data_free n w (Fixed.root r k q) = omega (arith, sh)

  -- FATs whose sectors are the same mark the same clusters; root sectors that are the same hold the same slots.
  pub marks_same : (f g : Fat) → ((s : ℕ) → s < l.fatsize → f s ≡ g s) → (k : ℕ) → 2 ≤ k → k < 2 + l.clusters → marked f k ≡ marked g k
  marks_same f g h k low high = ap (λ v. is_reserved v) (entry_same g f k (h (k / 256) (omega (arith, sh))))

  pub slots_same : (x y : Card) → ((r : ℕ) → r < l.entries / 16 → x (root_place l r) ≡ y (root_place l r)) → (k : ℕ) → k < l.entries
      → slot_at l x k ≡ slot_at l y k
  unfolding slot_at
  slots_same x y h k less = ap (λ (b : Bytes). part b (32 * (k % 16))) (h (k / 16) (omega (arith, sh)))

-- ---- recovery of a card with the same boot sector and marks

pub recovery_is : {size : ℕ} {c : Card} → Start size c → (x : Card) → Alike c x → (p : Pending)
    → root_ok (layout_of c).entries (first_bytes (layout_of c) x) ≡ true → pending (layout_of c) (area_of c) x ≡ p → is_broken p ≡ false
    → recovery size x ≡ granted (recover_stores (layout_of c) x p)
unfolding plan recover
recovery_is {size} {c} st x h p order at sound =
    then (examine (window size x)) _ (volume_of c p) (examine_same size c x h st.clean.fit p order at sound)

-- ---- facts of the card at the start

module _ {size : ℕ} {c : Card} (st : Start size c) where
  pub shape_of : Shape (layout_of c)
  shape_of = fit_shape size c st.clean.fit

  pub run_fine : run_ok (layout_of c) (first_fat c) (run (layout_of c) (first_fat c)) ≡ true
  run_fine = fit_run size c st.clean.fit

  pub fats_same : (s : ℕ) → s < (layout_of c).fatsize → fat1_of (layout_of c) c s ≡ fat2_of (layout_of c) c s
  fats_same s less = sym (st.clipped ((layout_of c).fat1 + s)) ∙ agree_at (layout_of c) c st.clean.agree s less ∙ st.clipped ((layout_of c).fat2 + s)

  pub log_quiet : (i : ℕ) → i < (area_of c).sectors → Quiet (c ((area_of c).sector + i))
  unfolding pending
  log_quiet = calm_quiet (layout_of c).entries (seen_end (layout_of c) c) (area_of c) (log_of (area_of c) c)
      st.clean.calm

  pub log_low : (layout_of c).start ≤ (area_of c).sector
  log_low = area_low (layout_of c) (run (layout_of c) (first_fat c))

  pub log_high : (area_of c).sector + (area_of c).sectors ≤ (layout_of c).total
  log_high = area_high (layout_of c) (first_fat c) shape_of

  pub log_some : 1 ≤ (area_of c).sectors
  log_some = area_some (layout_of c) (first_fat c) shape_of.factor_low run_fine

  pub log_few : (area_of c).sectors ≤ 128
  log_few = area_few (layout_of c) (first_fat c) run_fine

  pub root_order : Ordered (layout_of c).entries (end_slot (layout_of c).entries (first_bytes (layout_of c) c)) (first_bytes (layout_of c) c)
  root_order = ordered (layout_of c).entries (first_bytes (layout_of c) c) st.clean.root

  -- Numbers of two bytes in the boot sector.
  pub entries_few : (layout_of c).entries < 65536
  unfolding layout arrange fields
  entries_few = le_below 2 (c 0) 17 (λ i lo hi. st.small 0 i)

  pub fatsize_few : (layout_of c).fatsize < 65536
  unfolding layout arrange fields
  fatsize_few = le_below 2 (c 0) 22 (λ i lo hi. st.small 0 i)

  -- A card with the same root sectors has its slots in order too.
  pub root_kept : (x : Card) → ((r : ℕ) → r < (layout_of c).entries / 16 → x (root_place (layout_of c) r) ≡ c (root_place (layout_of c) r))
      → root_ok (layout_of c).entries (first_bytes (layout_of c) x) ≡ true
  root_kept x h =
      let l : Layout = layout_of c in
      let firsts : (k : ℕ) → k < l.entries → first_bytes l x k ≡ first_bytes l c k = λ k less. ap (λ (y : Bytes). y 0) (slots_same l shape_of x c h k less) in
      ordered_ok l.entries (first_bytes l x) (end_slot l.entries (first_bytes l c))
      (ordered_same l.entries (end_slot l.entries (first_bytes l c)) (first_bytes l c) (first_bytes l x) firsts root_order)
