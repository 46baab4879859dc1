-- The log's clearing as a loop makes it, and records laid into a sector of zeros.
use Prim.Native.Nat.{ℕ, ◌+◌, ◌-◌, ◌*◌, ◌<◌, ◌≤◌}
use native.Mathlib.Omega.{arith}
use native.Mathlib.Numerals.{add-one}
use mathlib.Core.Path.{◌≡◌, sym, ap, ◌∙◌, fun_ext}
use mathlib.Core.Bool.{Bool}
use mathlib.Core.List.{List, [], ◌∷◌, ◌++◌, map, map-append}
use lib.ListN.{replicate, length, get_or, take, length-map, get_or-eq_default}
use lib.Seq.{take-suc, length-take-le}
use lib.Dec.{eqb}
use Rattle.model.specs.Bytes.{Bytes, bytes_of, overlay, zeros, part}
use Rattle.model.specs.Sector.{card_of, Store, store}
use Rattle.model.specs.Log.{log_of}
use Rattle.model.specs.Record.{lay, record_bytes, record_in, encode, with_text, records, operation_records}
use Rattle.model.specs.declared.Record.{Record}
use Rattle.std.proofs.Common.{Result, Ok, Err}
use Rattle.model.specs.declared.Stopped.{Stopped}
use Rattle.model.specs.Promises.{Spent, up_to}
use Rattle.model.proofs.Runs.{spends_none, spends_more, spends_cut}
use Rattle.model.specs.declared.Area.{Area}
use Rattle.model.proofs.Pieces.{lay_none, lay_more}
use Rattle.model.proofs.Turns.{map_falling}
use Rattle.operations.specs.Plan.{clear_all}
use Rattle.model.proofs.Lists.{all_zero}
use Rattle.model.specs.declared.Operation.{Operation}
use mathlib.Core.Logic.{⊎_elim}
use borrow.Author.Tests.{lt-ltb, le-ltb}
use Rattle.model.proofs.Overlays.{overlay_below, overlay_in, overlay_above}
use Rattle.model.proofs.Sectors.{part_zero}
use Rattle.model.proofs.Records.{zero_after}
use Rattle.model.proofs.Tests.{less?}

-- The log's sectors from the k-th on, cleared from the last down.
abbrev clear_turn : Area → ℕ → List Store
clear_turn a k = store (a.sector + (a.sectors - 1 - k)) zeros ∷ []

abbrev pub cleared_from : Area → ℕ → List Store
cleared_from a k = up_to (clear_turn a) (a.sectors - k)

clear_turns : (a : Area) → clear_all a ≡ up_to (clear_turn a) a.sectors
unfolding clear_all
clear_turns a = map_falling (λ s. store s zeros) a.sector a.sectors

module _ (a : Area) where
  pub clear_begun : (b : ℕ) (e : List ℕ) → Spent b b (cleared_from a a.sectors) e e (Ok (tt {0}))
  clear_begun b e = let none : a.sectors - a.sectors ≡ 0 = omega arith in rw none (spends_none (clear_turn a) b e)

  pub clear_ended : {b l : ℕ} {e x : List ℕ} → Spent b l (cleared_from a 0) e x (Ok (tt {0})) → Spent b l (clear_all a) e x (Ok (tt {0}))
  clear_ended so = let all : a.sectors - 0 ≡ a.sectors = omega arith in rw clear_turns (rw all at so)

  -- The next sector below the k-th.
  module _ {b l k n : ℕ} {e x y : List ℕ} {r : Result Unit Stopped} (some : 0 < k) (less : k ≤ a.sectors)
      (so : Spent b l (cleared_from a k) e x (Ok (tt {0}))) (turn : Spent l n (store (a.sector + (k - 1)) zeros ∷ []) x y r) where
    own : store (a.sector + (k - 1)) zeros ∷ [] ≡ clear_turn a (a.sectors - k)
    own = let e : a.sectors - 1 - (a.sectors - k) ≡ k - 1 = omega arith in rw e

    pub clear_more : {u : Unit} → r ≡ Ok u → Spent b n (cleared_from a (k - 1)) e y (Ok (tt {0}))
    clear_more f =
        let e : a.sectors - (k - 1) ≡ a.sectors - k + 1 = omega arith in
        rw e (spends_more (clear_turn a) so (rw own at turn) f)

    pub clear_cut : {d : Stopped} → r ≡ Err d → Spent b n (clear_all a) e y (Err d)
    clear_cut f = rw clear_turns (spends_cut (clear_turn a) so (rw own at turn) f a.sectors (omega arith))

-- The records laid so far, and one more.
pub lay_zeros : bytes_of (replicate 512 0) ≡ lay []
lay_zeros = all_zero 512 ∙ sym lay_none

pub lay_next : (rs : List Record) (k : ℕ) (b old new : Bytes) → k < length rs → b ≡ record_bytes (get_or rs k (record_in zeros))
    → old ≡ lay (map record_bytes (take k rs)) → new ≡ overlay 32 b (32 * k) old → new ≡ lay (map record_bytes (take (k + 1) rs))
lay_next rs k b old new less own so is =
    let more : take (k + 1) rs ≡ take k rs ++ get_or rs k (record_in zeros) ∷ [] =
    ap (λ (i : ℕ). take i rs) (add-one k) ∙ take-suc rs k (record_in zeros) less in
    let size : length (map record_bytes (take k rs)) ≡ k = length-map (take k rs) record_bytes ∙ length-take-le k rs (omega arith) in
    is ∙ (λ i. overlay 32 (own i) (32 * k) (so i))
    ∙ ap (λ (m : ℕ). overlay 32 (record_bytes (get_or rs k (record_in zeros))) (32 * m) (lay (map record_bytes (take k rs)))) (sym size)
    ∙ sym (lay_more (map record_bytes (take k rs)) (record_bytes (get_or rs k (record_in zeros))))
    ∙ ap lay (sym (map-append record_bytes (take k rs) (get_or rs k (record_in zeros) ∷ [])))
    ∙ ap (λ (qs : List Record). lay (map record_bytes qs)) (sym more)

-- The characters copied after them.
pub text_laid : (o : Operation) (xs : List ℕ) (buf r : Bytes) → buf ≡ lay (map record_bytes (operation_records o))
    → ((j : ℕ) → r j ≡ overlay (length xs) (part (bytes_of xs) 0) (32 * length (operation_records o)) buf j) → r ≡ encode (with_text o (bytes_of xs))
unfolding encode records
text_laid o xs buf r laid is = fun_ext (λ j. is j ∙ ⊎_elim
    (λ less. overlay_below (part (bytes_of xs) 0) m buf (length xs) j less ∙ (λ i. laid i j) ∙ sym (rw (lt-ltb j m less)))
    (λ more. rw (le-ltb j m more) (⊎_elim
    (λ (inside : j < m + length xs). overlay_in (part (bytes_of xs) 0) m buf (length xs) j more inside ∙ (λ i. part_zero (bytes_of xs) i (j - m)))
    (λ (past : m + length xs ≤ j). overlay_above (part (bytes_of xs) 0) m buf (length xs) j past ∙ (λ i. laid i j)
    ∙ zero_after (map record_bytes (operation_records o)) j (omega (arith, length-map (operation_records o) record_bytes))
    ∙ sym (get_or-eq_default xs 0 {n = j - m} (omega arith))) (less? j (m + length xs)))) (less? j m))
  where
    m : ℕ
    m = 32 * length (operation_records o)

-- Sector s of a log begins with 0.
abbrev pub begins_zero : Area → List ℕ → ℕ → Bool
begins_zero a w s = eqb (log_of a (card_of w) s 0) 0
