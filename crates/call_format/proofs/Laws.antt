-- The numbers of a fresh card as the code finds them, its sectors as it builds them, and its stores as it makes them.
use Prim.Native.Nat.{ℕ, ◌+◌, ◌-◌, ◌*◌, ◌/◌, ◌%◌, ◌^◌, ◌<◌, ◌≤◌}
use native.Mathlib.Omega.{arith}
use native.Mathlib.Nat.{mul-le-mul_right, zero-div}
use mathlib.Core.Path.{◌≡◌, refl, sym, ap, ◌∙◌, subst}
use mathlib.Core.Logic.{⊎_elim}
use mathlib.Core.Bool.{Bool, true, false, ◌&&◌, and-true}
use mathlib.Core.List.{List, [], ◌∷◌}
use lib.Dec.{leb, ltb}
use lib.ListN.{length, get_or}
use borrow.Author.Tests.{le-leb, leb-true, eqb-true, lt-ltb, le-ltb, ltb-false}
use Rattle.model.specs.Bytes.{Bytes, byte_of, bytes_of, patch, zeros}
use Rattle.model.specs.Scan.{every}
use Rattle.model.specs.Sector.{Window, Store, store}
use Rattle.model.specs.Boot.{arrange, fields_ok, fat_holds}
use Rattle.model.specs.Log.{most_sectors}
use Rattle.model.specs.Ground.{refused, granted, ◌when◌, ◌>>◌}
use Rattle.model.specs.Promises.{Shape, Held, Spent, up_to}
use Rattle.model.specs.declared.Fields.{Fields}
use Rattle.model.specs.declared.Layout.{Layout}
use Rattle.model.specs.declared.Ground.{Ground}
use Rattle.model.proofs.Tests.{every_at, every_not, which, and_left, and_right, by_pick, less?}
use Rattle.model.proofs.Overlays.{overlay_in, overlay_below}
use Rattle.model.proofs.Boot.{one_bit}
use Rattle.model.proofs.Scan.{first_is, first_none}
use Rattle.model.proofs.Cards.{store_same}
use Rattle.model.proofs.Turns.{map_indices}
use Rattle.operations.specs.Program.{stores}
use Rattle.boot.specs.Booted.{Narrow, sized}
use Rattle.std.proofs.Common.{Result, Ok, Err, Option, Some, None}
use Rattle.std.specs.Option.{ok_or}
use Rattle.std.proofs.lemmas.Option.{none-some, same_Some}
use Rattle.model.specs.declared.Stopped.{Stopped}
use Rattle.formatting.specs.Fresh.{with_fats, fewest, fresh_fields, write_fields, fresh_boot, wide_fat, fresh_entry, fresh_fat}
use Rattle.formatting.specs.Format.{form_ok, fresh_table, fresh_tables, format_stores, format}
use Rattle.formatting.proofs.Fat.{entry_free}
use Rattle.formatting.proofs.Form.{fewest_low, fewest_high, form_shape}
use Rattle.formatting.proofs.Card.{tables}
use Rattle.call_format.specs.Formed.{formed, fields_in, with_marks, with_sizes, with_shape, rest_stores}

-- Fields with FATs of some sectors: accepted as those with one, and from two bytes.
module _ (total factor f : ℕ) (some : 1 ≤ f) where
  pub plain_with : fields_ok (with_fats total factor f) ≡ fields_ok (with_fats total factor 1)
  unfolding fields_ok
  plain_with = rw (le-leb 1 f some)

  pub narrow_with : f < 65536 → Narrow (with_fats total factor f)
  narrow_with less = record { reserved = omega arith; fatsize = less; entries = omega arith }

-- Sectors per cluster that are accepted.
pub factor_of : (total factor : ℕ) → fields_ok (with_fats total factor 1) ≡ true → (1 ≤ factor) × (factor ≤ 64)
unfolding fields_ok
factor_of total factor ok = (one_bit factor (eqb-true _ _ (every_at _ ok 0)), leb-true _ _ (every_at _ ok 1))

-- Whether FATs of f sectors hold what they must; the search for the fewest.
abbrev pub holds_with : ℕ → ℕ → ℕ → Bool
holds_with total factor f = fat_holds (arrange (with_fats total factor f))

module _ (total factor n : ℕ) (none : (k : ℕ) → 1 ≤ k → k < n → holds_with total factor k ≡ false) where
  pub fewest_here : 1 ≤ n → n < 65535 → holds_with total factor n ≡ true → n ≡ fewest total factor
  unfolding fewest
  fewest_here some less here = sym (first_is (holds_with total factor) 1 65534 n some less none here)

  pub fewest_past : n ≡ 65535 → 65535 ≡ fewest total factor
  unfolding fewest
  fewest_past end = sym (first_none (holds_with total factor) 1 65534 (λ k lo hi. none k lo (omega arith)))

pub log_product : (n factor : ℕ) → factor ≤ 64 → n ≤ 128 → n * factor ≤ 8192
log_product n factor high few =
    let m : n * factor ≤ 128 * factor = mul-le-mul_right factor few in
    omega arith

-- ---- the layout, or none

module _ (total factor n : ℕ) where
  abbrev f : Fields
  f = fresh_fields total factor

  pub fresh_plain : fields_ok f ≡ fields_ok (with_fats total factor 1)
  fresh_plain = plain_with total factor (fewest total factor) (fewest_low total factor)

  pub unplain : fields_ok (with_fats total factor 1) ≡ false → None ≡ formed total factor n
  unfolding formed form_ok
  unplain h = rw (every_not _ 0 (fresh_plain ∙ h))

  pub unlogged : (leb 1 n && leb (n * factor) most_sectors) ≡ false → None ≡ formed total factor n
  unfolding formed form_ok
  unlogged h = go (leb 1 n) (leb (n * factor) most_sectors) refl refl h
    where
      go : (a b : Bool) → leb 1 n ≡ a → leb (n * factor) most_sectors ≡ b → (a && b) ≡ false → None ≡ formed total factor n
      go true b some e z = rw (every_not _ 3 (e ∙ z))
      go false b none e z = rw (every_not _ 2 none)

  pub judged : fields_ok (with_fats total factor 1) ≡ true → (leb 1 n && leb (n * factor) most_sectors) ≡ true → sized (arrange f) ≡ formed total factor n
  unfolding formed form_ok sized every
  judged plain log = rw (
    fresh_plain ∙ plain,
    and_left (leb 1 n) (leb (n * factor) most_sectors) log,
    and_right (leb 1 n) (leb (n * factor) most_sectors) log,
    and-true,
  )

  formed_none : formed total factor n ≡ None → form_ok f n ≡ false
  unfolding formed
  formed_none h =
      ⊎_elim (λ t. absurd (none-some (arrange f) (sym t.1))) (λ t. t.0) (which (form_ok f n) (Some (arrange f)) None None h)

  formed_some : (l : Layout) → formed total factor n ≡ Some l → (form_ok f n ≡ true) × (l ≡ arrange f)
  unfolding formed
  formed_some l h =
      ⊎_elim (λ t. (t.0, sym (same_Some (arrange f) l t.1))) (λ t. absurd (none-some l t.1)) (which (form_ok f n) (Some (arrange f)) None (Some l) h)

  -- SIZE where there is none.
  module _ {o : Option Layout} {r : Result Layout Ground} (is : o ≡ formed total factor n) (at : r ≡ ok_or o Ground.Size) where
    pub formed_bad : {g : Ground} → r ≡ Err g → (form_ok f n ≡ false) × (g ≡ Ground.Size)
    formed_bad {g} was = let none : o ≡ None = grind (arith, at, was) in (formed_none (sym is ∙ none), grind (arith, at, was))

    pub formed_good : {l : Layout} → r ≡ Ok l → (form_ok f n ≡ true) × (l ≡ arrange f)
    formed_good {l} was = let some : o ≡ Some l = grind (arith, at, was) in formed_some l (sym is ∙ some)

-- ---- the bytes of a fresh FAT's first sector

-- One entry more.
pub fat_more : (n k v : ℕ) (old new : List ℕ) → v ≡ fresh_entry n k → bytes_of new ≡ patch 2 v (2 * k) (bytes_of old)
    → ((m : ℕ) → m < 2 * k → get_or old m 0 ≡ fresh_fat n 0 m) → (m : ℕ) → m < 2 * (k + 1) → get_or new m 0 ≡ fresh_fat n 0 m
unfolding wide_fat
fat_more n k v old new is laid before m less =
    ap (λ (b : Bytes). b m) laid ∙ ⊎_elim
    (λ l. overlay_below (byte_of v) (2 * k) (bytes_of old) 2 m l ∙ before m l)
    (λ h.
    let e : 256 * 0 + m / 2 ≡ k = omega arith in
    let o : m % 2 ≡ m - 2 * k = omega arith in
    overlay_in (byte_of v) (2 * k) (bytes_of old) 2 m h (omega arith) ∙ rw (e, o, is))
    (less? m (2 * k))

-- ---- stores

-- A store goes by its sector and its 512 bytes.
pub spent_same : {limit left s t : ℕ} {a b : Bytes} {e x : List ℕ} {r : Result Unit Stopped} → s ≡ t → ((j : ℕ) → j < 512 → a j ≡ b j)
    → Spent limit left (store s a ∷ []) e x r → Spent limit left (store t b ∷ []) e x r
spent_same {limit} {left} {s} {t} {a} {b} {e} {x} {r} at same so =
    subst (λ (u : Store). Spent limit left (u ∷ []) e x r) (ap (λ (i : ℕ). store i a) at ∙ store_same t a b same) so

-- The boot sector, from its three parts.
pub boot_made : (l : Layout) (b c d x : Bytes) → b ≡ zeros → c ≡ with_marks b → d ≡ with_sizes l.total l.fatsize c → x ≡ with_shape l.factor d
    → x ≡ fresh_boot (fields_in l)
unfolding fresh_boot write_fields
boot_made l b c d x none marks sizes shaped = shaped ∙ ap (with_shape l.factor) (sizes ∙ ap (with_sizes l.total l.fatsize) (marks ∙ ap with_marks none))

-- Past its first sector a FAT has no byte but zero.
later_zero : (n s j : ℕ) → n ≤ 128 → 1 ≤ s → fresh_fat n s j ≡ 0
unfolding wide_fat byte_of
later_zero n s j few past = rw (entry_free n (256 * s + j / 2) (omega arith)) (ap (λ (z : ℕ). z % 256) (zero-div (256 ^ (j % 2))))

module _ (l : Layout) (n k : ℕ) where
  pub table_fat1 : 1 ≤ l.fatsize → k ≡ 0 → (j : ℕ) → fresh_fat n 0 j ≡ fresh_table l n k j
  unfolding fresh_table
  table_fat1 some e j = rw (e, lt-ltb 0 l.fatsize some)

  pub table_fat2 : 1 ≤ l.fatsize → k ≡ l.fatsize → (j : ℕ) → fresh_fat n 0 j ≡ fresh_table l n k j
  unfolding fresh_table
  table_fat2 some e j =
      let z : l.fatsize - l.fatsize ≡ 0 = omega arith in
      rw (e, le-ltb l.fatsize l.fatsize (omega arith), lt-ltb l.fatsize (2 * l.fatsize) (omega arith), z)

  pub table_zero : n ≤ 128 → (k ≡ 0 → ⊥) → (k ≡ l.fatsize → ⊥) → (j : ℕ) → zeros j ≡ fresh_table l n k j
  unfolding fresh_table
  table_zero few first second j = by_pick (λ (b : Bytes). 0 ≡ b j) (ltb k l.fatsize) _ _
      (λ _. sym (later_zero n k j few (omega arith)))
      (λ past. by_pick (λ (b : Bytes). 0 ≡ b j) (ltb k (2 * l.fatsize)) _ zeros
      (λ _. let beyond : l.fatsize ≤ k = ltb-false k l.fatsize past in sym (later_zero n (k - l.fatsize) j few (omega arith))) (λ _. refl))

-- The tables, as the turns of a loop.
abbrev pub table_turn : Layout → ℕ → ℕ → List Store
table_turn l n k = store (l.fat1 + k) (fresh_table l n k) ∷ []

pub table_turns : (l : Layout) (n : ℕ) → fresh_tables l n ≡ up_to (table_turn l n) (tables l n)
unfolding fresh_tables
table_turns l n = map_indices (λ k. store (l.fat1 + k) (fresh_table l n k)) (λ k. true) (tables l n)

-- They end within the card.
pub tables_within : (l : Layout) (n : ℕ) → Shape l → n ≤ 128 → l.start + n * l.factor ≤ l.total
tables_within l n sh few =
    let m : n * l.factor ≤ l.clusters * l.factor = mul-le-mul_right l.factor (omega (arith, sh.many)) in
    omega (arith, sh.data_end)

-- ---- the call

module _ (total factor n : ℕ) (ok : form_ok (fresh_fields total factor) n ≡ true) where
  -- What the stores need.
  pub fresh_held : (xs : List ℕ) → 512 * total ≤ length xs → Held (arrange (fresh_fields total factor)) xs
  unfolding arrange
  fresh_held xs room = record {
    fits = record {
      shape = form_shape (fresh_fields total factor) n ok;
      fat1_high = omega arith;
      fatsize_high = fewest_high total factor;
      entries_high = omega arith;
    };
    whole = room;
  }

  -- They are those of the definition.
  card_stores : store 0 zeros ∷ rest_stores (arrange (fresh_fields total factor)) n ≡ stores (format_stores (fresh_fields total factor) n)
  unfolding rest_stores format_stores arrange
  card_stores = refl

  pub card_spent : {l : Layout} → l ≡ arrange (fresh_fields total factor) → {limit left : ℕ} {e x : List ℕ} {r : Result Unit Stopped}
      → Spent limit left (store 0 zeros ∷ rest_stores l n) e x r → Spent limit left (stores (format_stores (fresh_fields total factor) n)) e x r
  card_spent is {limit} {left} {e} {x} {r} so =
      subst (λ (ss : List Store). Spent limit left ss e x r) (ap (λ (k : Layout). store 0 zeros ∷ rest_stores k n) is ∙ card_stores) so

module _ (w : Window) (total factor n : ℕ) where
  pub format_size : form_ok (fresh_fields total factor) n ≡ false → format w total factor n ≡ refused Ground.Size
  unfolding format ◌when◌ ◌>>◌
  format_size h = rw h

  module _ (ok : form_ok (fresh_fields total factor) n ≡ true) where
    pub format_window : w.size < 512 * total → format w total factor n ≡ refused Ground.Window
    unfolding format ◌when◌ ◌>>◌
    format_window h = rw (ok, lt-ltb w.size (512 * total) h)

    pub format_granted : 512 * total ≤ w.size → format w total factor n ≡ granted (format_stores (fresh_fields total factor) n)
    unfolding format ◌when◌ ◌>>◌
    format_granted h = rw (ok, le-ltb w.size (512 * total) h)
