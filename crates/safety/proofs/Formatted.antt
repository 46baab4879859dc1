-- What a format leaves: the finished card, a cut, and a format begun again.
use Prim.Native.Nat.{ℕ, ◌+◌, ◌-◌, ◌*◌, ◌/◌, ◌%◌, ◌≤◌, ◌<◌, min}
use native.Mathlib.Nat.{mul-le-mul_right}
use native.Mathlib.Omega.{arith}
use mathlib.Core.Path.{◌≡◌, refl, sym, ap, ◌∙◌, subst}
use mathlib.Core.Logic.{◌⊎◌, inl, inr, ⊎_elim}
use mathlib.Core.List.{List, [], ◌∷◌, ◌++◌, Sublistᴰ}
use mathlib.Core.Bool.{true, false, not}
use lib.Dec.{leb, ltb}
use lib.ListN.{length, take, length-append, length-map}
use lib.Seq.{take_all, length-take-le}
use borrow.Author.Tests.{le-leb, lt-leb, le-ltb, eq-eqb}
use Rattle.model.specs.Bytes.{Bytes, zeros}
use Rattle.model.specs.Scan.{range}
use Rattle.model.specs.Sector.{Card, Window, Store, clip, store, put, after}
use Rattle.model.specs.Boot.{boot_ok, arrange}
use Rattle.model.specs.Fat.{fat1_of, entry, is_free}
use Rattle.model.specs.Chain.{cluster_sector}
use Rattle.model.specs.Log.{area}
use Rattle.model.specs.Root.{slot_at, vacant, listed, is_file}
use Rattle.model.specs.Ground.{Answer, refused, granted}
use Rattle.model.specs.Volume.{mount, examine, clean}
use Rattle.model.specs.Promises.{Shape}
use Rattle.model.specs.declared.Fields.{Fields}
use Rattle.model.specs.declared.Layout.{Layout}
use Rattle.model.specs.declared.Ground.{Ground}
use Rattle.model.specs.Outcome.{Done}
use Rattle.operations.specs.Program.{Program, stores}
use Rattle.operations.specs.Outcome.{outcome, made, leaves, largest}
use Rattle.operations.specs.Reading.{list, shown, directory_listing, filled_outcome, buffer_after}
use Rattle.formatting.specs.Fresh.{fewest, fresh_fields, fresh_boot, fresh_entry}
use Rattle.formatting.specs.Format.{form_ok, fresh_volume, fresh_table, fresh_tables, format_stores, format}
use Rattle.safety.specs.Sound.{Sound}
use Rattle.safety.specs.Cuts.{Cut}
use Rattle.safety.specs.Demand3.{Genuine}
use Rattle.safety.specs.Formatted.{FormatFinished, Unusable, FormatCut, FormatHeldBack, formats, FormatAgain}
use Rattle.model.proofs.Tests.{less?, clash, by_pick}
use Rattle.model.proofs.Scan.{first_before}
use Rattle.model.proofs.All.{All, all_append, all_image, all_take}
use Rattle.model.proofs.Indices.{indices_all0, indices_empty0, indices_length, mem_all}
use Rattle.model.proofs.Overlays.{overlay_none}
use Rattle.model.proofs.Cards.{Away, after_away, put_in}
use Rattle.model.proofs.Changes.{all_sub, after_again}
use Rattle.model.proofs.Grounds.{passed, barred, ends, then}
use Rattle.formatting.proofs.Boot.{boot_small, zeros_refused}
use Rattle.formatting.proofs.Fat.{entry_log, entry_free, fat_small}
use Rattle.formatting.proofs.Form.{formed, few_total, fresh_stands, form_shape, few_log}
use Rattle.formatting.proofs.Card.{tables, Fresh, finished_fresh, slot_is, entry_is, fresh_clean}
use Rattle.safety.proofs.Journal.{prefix_cut}
use Rattle.safety.proofs.Bytewise.{SmallStore, after_small, after_clipped}
use Rattle.safety.proofs.Refused.{call_refused, read_refused, list_refused, long_name_refused, fits_refused}

-- A boot sector of zeros: BOOT.
zero_boot : (x : Window) → 512 ≤ x.size → x.card 0 ≡ clip zeros → examine x ≡ refused Ground.Boot
unfolding examine mount
zero_boot x whole none =
    ends (mount x) _ Ground.Boot
    (passed Ground.Short _ _ (le-ltb x.size 512 whole) ∙ barred Ground.Boot _ _ (ap (λ b. not (boot_ok b)) none ∙ ap not zeros_refused))

unusable : (x : Window) → 512 ≤ x.size → x.card 0 ≡ clip zeros → Unusable x
unusable x whole none =
    let e = zero_boot x whole none in
    record {
      calls = call_refused x Ground.Boot e;
      reads = read_refused x Ground.Boot e;
      lists = list_refused x Ground.Boot e;
      long_names = long_name_refused x Ground.Boot e;
      fits_bytes = fits_refused x Ground.Boot e;
    }

-- ---- the stores of a format

-- The table at sector l.fat1 + k, and what holds of all of them.
module _ (l : Layout) (n : ℕ) where
  all_tables : (P : Store → Type 0) → ((k : ℕ) → k < tables l n → P (store (l.fat1 + k) (fresh_table l n k))) → All P (fresh_tables l n)
  unfolding fresh_tables
  all_tables P h =
      all_image P (λ k. store (l.fat1 + k) (fresh_table l n k)) (range 0 (tables l n)) (indices_all0 (λ k. true) (tables l n) _ (λ k less _. h k less))

  few_tables : length (fresh_tables l n) ≤ tables l n
  unfolding fresh_tables
  few_tables =
      let m : length (fresh_tables l n) ≡ length (range 0 (tables l n)) = length-map (range 0 (tables l n)) _ in
      omega (arith, indices_length (λ k. true) 0 (tables l n))

module _ (f : Fields) (n : ℕ) where
  all_stores : (P : Store → Type 0) → P (store 0 zeros) → ((k : ℕ) → k < tables (arrange f) n → P (store ((arrange f).fat1 + k) (fresh_table (arrange f) n k)))
      → P (store 0 (fresh_boot f)) → All P (stores (format_stores f n))
  unfolding format_stores
  all_stores P first table last = (first, all_append P (fresh_tables (arrange f) n) (store 0 (fresh_boot f) ∷ []) (all_tables (arrange f) n P table) (last, tt))

  length_stores : length (stores (format_stores f n)) ≡ 2 + length (fresh_tables (arrange f) n)
  unfolding format_stores
  length_stores = omega (arith, length-append (fresh_tables (arrange f) n) (store 0 (fresh_boot f) ∷ []))

  -- Cut anywhere.
  away_tables : 1 ≤ (arrange f).fat1 → Away (fresh_tables (arrange f) n) 0
  away_tables one = all_tables (arrange f) n (λ s. 0 ≡ s.sector → ⊥) (λ k less e. omega arith)

  zeroed : 1 ≤ (arrange f).fat1 → (c : Card) (ws : List Store) → Sublistᴰ ws (fresh_tables (arrange f) n) → after (store 0 zeros ∷ ws) c 0 ≡ clip zeros
  unfolding after
  zeroed one c ws sub =
      after_away ws (put c (store 0 zeros)) 0 (all_sub (λ s. 0 ≡ s.sector → ⊥) sub (away_tables one)) ∙ put_in c (store 0 zeros) 0 refl

sub_none : {zs : List Store} → Sublistᴰ zs [] → zs ≡ []
sub_none Sublistᴰ.slnil = refl

-- A card, cut at any choice between two stores of the boot sector.
cut_cases : (f : Fields) (n : ℕ) (zs : List Store) → Cut (format_stores f n) zs
    → (zs ≡ []) ⊎ (((ws : List Store) × (zs ≡ store 0 zeros ∷ ws) × Sublistᴰ ws (fresh_tables (arrange f) n)) ⊎ (zs ≡ stores (format_stores f n)))
unfolding format_stores
cut_cases f n zs (inl sub) = inl (sub_none sub)
cut_cases f n zs (inr (ws, is, inl sub)) = inr (inl (ws, is, sub))
cut_cases f n zs (inr (ws, is, inr (us, so, sub))) =
    inr (inr (is ∙ ap (λ ts. store 0 zeros ∷ ts) (so ∙ ap (λ ts. fresh_tables (arrange f) n ++ store 0 (fresh_boot f) ∷ ts) (sub_none sub))))

-- ---- a format that is granted

module _ (w : Window) (total factor n : ℕ) (p : Program) (is : format w total factor n ≡ granted p) where
  abbrev f : Fields
  f = fresh_fields total factor

  abbrev l : Layout
  l = arrange f

  ok : form_ok f n ≡ true
  ok = (formed w total factor n p is).0

  roomy : 512 * total ≤ w.size
  roomy = (formed w total factor n p is).1

  program : p ≡ format_stores f n
  program = (formed w total factor n p is).2

  sh : Shape l
  sh = form_shape f n ok

  -- The tables end within the card.
  tables_end : l.fat1 + tables l n ≤ total
  unfolding arrange
  tables_end =
      let few : n ≤ l.clusters = omega (arith, few_log f n ok, sh.many) in
      let m : n * factor ≤ l.clusters * factor = mul-le-mul_right factor few in
      let e : l.start + l.clusters * factor ≤ total = sh.data_end in
      omega arith

  within : All (λ s. s.sector < total) (stores p)
  within = rw program (all_stores f n (λ s. s.sector < total) (omega (arith, tables_end, sh.fat1_low)) (λ k less. omega (arith, tables_end))
      (omega (arith, tables_end, sh.fat1_low)))

  short : length (stores p) ≤ largest
  short = rw program (omega (arith, length_stores f n, few_tables l n, tables_end, few_total total factor n ok))

  -- With the largest limit all stores are made.
  abbrev x : Card
  x = after (stores p) w.card

  all_made : made largest (format w total factor n) ≡ stores p
  unfolding made
  all_made = rw is (take_all largest (stores p) short)

  done : leaves largest (format w total factor n) w ≡ record { size = w.size; card = x }
  done = ap (λ ss. record { size = w.size; card = after ss w.card }) all_made

  fresh : Fresh f n x
  fresh = rw program (finished_fresh f n w.card sh.fat1_low)

  end : outcome largest (format w total factor n) ≡ Done (length (stores p))
  unfolding outcome
  end = rw (is, le-leb (length (stores p)) largest short)

  finished_clean : clean (record { size = w.size; card = x }) ≡ granted (fresh_volume f n)
  finished_clean = fresh_clean f n ok x fresh (fresh_stands total factor n ok) w.size roomy

  -- No slot is in use.
  unused : (s : ℕ) → s < l.entries → listed (slot_at l x s) ≡ false
  unfolding listed vacant
  unused s less = rw (eq-eqb (slot_at l x s 0) 0 (slot_is f n ok x fresh s 0 less (omega arith)))

  no_file : (s : ℕ) → s < l.entries → is_file (slot_at l x s) ≡ false
  unfolding is_file
  no_file s less = rw (unused s less)

  finished_sound : Sound l x
  finished_sound = record {
    chains = λ s less file. clash file (no_file s less);
    apart = λ s t ls lt file. clash file (no_file s ls);
  }

  none_shown : shown l x ≡ []
  unfolding shown
  none_shown = indices_empty0 (λ k. listed (slot_at l x k)) l.entries unused

  lists_none : (room : ℕ) → list (record { size = w.size; card = x }) room ≡ granted (directory_listing l x [] room)
  unfolding list
  lists_none room = then (clean (record { size = w.size; card = x })) _ (fresh_volume f n) finished_clean
      ∙ ap (λ ss. granted (directory_listing l x ss room)) none_shown

  counts_none : (room : ℕ) → filled_outcome (list (record { size = w.size; card = x }) room) ≡ Done 0
  unfolding filled_outcome directory_listing
  counts_none room = ap filled_outcome (lists_none room)

  copies_none : (room : ℕ) (b : Bytes) (i : ℕ) → buffer_after (list (record { size = w.size; card = x }) room) b i ≡ b i
  unfolding buffer_after directory_listing
  copies_none room b i =
      let none : 32 * min 0 (room / 32) ≡ 0 = omega arith in
      ap (λ a. buffer_after a b i) (lists_none room) ∙ rw none (overlay_none _ 0 b i)

  free_then : (k : ℕ) → 2 ≤ k → k < 2 + l.clusters → is_free (entry (fat1_of l x) k) ≡ leb (2 + n) k
  free_then k lo hi = ap (λ v. is_free v) (entry_is f n ok x fresh k hi) ∙ ⊎_elim
      (λ (log : k < 2 + n). rw (entry_log n k lo log, lt-leb (2 + n) k log))
      (λ (rest : 2 + n ≤ k). rw (entry_free n k rest, le-leb (2 + n) k rest)) (less? k (2 + n))

  -- What is stored is bytes.
  small_table : (k : ℕ) → SmallStore (store (l.fat1 + k) (fresh_table l n k))
  unfolding fresh_table
  small_table k j = by_pick (λ (b : Bytes). b (j % 512) < 256) (ltb k l.fatsize) _ _ (λ _. fat_small (fresh_entry n) k (j % 512))
      (λ _. by_pick (λ (b : Bytes). b (j % 512) < 256) (ltb k (2 * l.fatsize)) _ zeros
      (λ _. fat_small (fresh_entry n) (k - l.fatsize) (j % 512)) (λ _. omega arith))

  small_stores : All SmallStore (stores p)
  small_stores = rw program (all_stores f n SmallStore (λ j. omega arith) (λ k less. small_table k) (λ j. boot_small f (j % 512)))

  made_small : (limit : ℕ) → All SmallStore (made limit (format w total factor n))
  unfolding made
  made_small limit = rw is (all_take SmallStore limit (stores p) small_stores)

  stays_genuine : (limit : ℕ) → Genuine w → Genuine (leaves limit (format w total factor n) w)
  stays_genuine limit real = record {
    sectors = after_clipped (made limit (format w total factor n)) w.card real.sectors;
    bytes = after_small (made limit (format w total factor n)) w.card (made_small limit) real.bytes;
  }

-- ---- the theorems

pub format_finished : FormatFinished
unfolding arrange fewest area cluster_sector
format_finished w total factor n p is = record {
  ends = end w total factor n p is;
  within = mem_all (λ s. s.sector < total) (stores p) (within w total factor n p is);
  holds = roomy w total factor n p is;
  is_clean = rw (done w total factor n p is) (finished_clean w total factor n p is);
  as_asked = record {
    sectors = refl;
    per_cluster = refl;
    reserved = refl;
    entries = refl;
    fewest_sectors = λ g one less. first_before _ 1 65534 g one less;
    log_first = omega arith;
    log_sectors = refl;
  };
  is_sound = rw (all_made w total factor n p is) (finished_sound w total factor n p is);
  none_listed = λ room. rw (done w total factor n p is) (counts_none w total factor n p is room);
  none_copied = λ room b i. rw (done w total factor n p is) (copies_none w total factor n p is room b i);
  free_clusters = λ k lo hi. rw (all_made w total factor n p is) (free_then w total factor n p is k lo hi);
  genuine = stays_genuine w total factor n p is;
}

pub format_held_back : FormatHeldBack
format_held_back w total factor n p is zs cut = go (cut_cases (fresh_fields total factor) n zs (subst (λ q. Cut q zs) so cut))
  where
    so : p ≡ format_stores (fresh_fields total factor) n
    so = program w total factor n p is

    go : (zs ≡ [])
        ⊎ (((ws : List Store) × (zs ≡ store 0 zeros ∷ ws) × Sublistᴰ ws (fresh_tables (arrange (fresh_fields total factor)) n))
        ⊎ (zs ≡ stores (format_stores (fresh_fields total factor) n)))
        → (zs ≡ []) ⊎ (Unusable (record { size = w.size; card = after zs w.card }) ⊎ (zs ≡ stores p))
    go (inl none) = inl none
    go (inr (inl (ws, at, sub))) =
        let one : 1 ≤ total = omega (arith, tables_end w total factor n p is, (sh w total factor n p is).fat1_low) in
        inr (inl (unusable _ (omega (arith, roomy w total factor n p is))
        (ap (λ ss. after ss w.card 0) at ∙ zeroed (fresh_fields total factor) n (sh w total factor n p is).fat1_low w.card ws sub)))
    go (inr (inr all)) = inr (inr (all ∙ ap stores (sym so)))

pub format_cut : FormatCut
unfolding made
format_cut w total factor n p is limit some less =
    rw is (go (format_held_back w total factor n p is (take limit (stores p)) (prefix_cut p limit).0))
  where
    count : length (take limit (stores p)) ≡ limit
    count = length-take-le limit (stores p) (omega arith)

    go : (take limit (stores p) ≡ [])
        ⊎ (Unusable (record { size = w.size; card = after (take limit (stores p)) w.card }) ⊎ (take limit (stores p) ≡ stores p))
        → Unusable (record { size = w.size; card = after (take limit (stores p)) w.card })
    go (inl none) = let z : limit ≡ 0 = sym count ∙ ap length none in absurd (omega arith)
    go (inr (inl so)) = so
    go (inr (inr all)) = let z : limit ≡ length (stores p) = sym count ∙ ap length all in absurd (omega arith)

-- A format goes by the window's size alone.
same_size : (w x : Window) (total factor n : ℕ) → x.size ≡ w.size → format x total factor n ≡ format w total factor n
unfolding format
same_size w x total factor n e = rw e

sizes_stay : (total factor n : ℕ) (limits : List ℕ) (w : Window) → (formats total factor n limits w).size ≡ w.size
sizes_stay total factor n [] w = refl
sizes_stay total factor n (limit ∷ limits) w = sizes_stay total factor n limits (leaves limit (format w total factor n) w)

once_more : (w : Window) (total factor n : ℕ) (a : Answer Program) → format w total factor n ≡ a → (limit : ℕ) (c : Card)
    → after (made largest a) (after (made limit a) c) ≡ after (made largest a) c
unfolding made after
once_more w total factor n (refused g) is limit c = refl
once_more w total factor n (granted p) is limit c = rw (take_all largest (stores p) (short w total factor n p is)) (after_again (stores p) limit c)

pub format_again : FormatAgain
format_again w total factor n limits = (same_size w _ total factor n (sizes_stay total factor n limits w), go limits w refl)
  where
    go : (limits : List ℕ) (x : Window) → format x total factor n ≡ format w total factor n
        → leaves largest (format w total factor n) (formats total factor n limits x) ≡ leaves largest (format w total factor n) x
    go [] x e = refl
    go (limit ∷ limits) x e =
        let y : Window = leaves limit (format x total factor n) x in
        go limits y (same_size x y total factor n refl ∙ e)
        ∙ ap (λ a. leaves largest (format w total factor n) (leaves limit a x)) e
        ∙ ap (λ c. record { size = x.size; card = c }) (once_more w total factor n (format w total factor n) refl limit x.card)
