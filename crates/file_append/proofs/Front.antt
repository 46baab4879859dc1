-- An append's data sectors, and what is stored after them: they leave all that lies before the data as it was.
use Prim.Native.Nat.{ℕ, ◌<◌, ◌≤◌}
use native.Mathlib.Omega.{arith}
use mathlib.Core.Path.{◌≡◌}
use Rattle.std.proofs.Common.{Result, Ok}
use mathlib.Core.List.{List, ◌++◌}
use Rattle.model.specs.Bytes.{Span}
use Rattle.model.specs.Sector.{Card, card_of, Store}
use Rattle.model.specs.Promises.{Shape, Spent}
use Rattle.model.specs.declared.Layout.{Layout}
use Rattle.model.specs.declared.File.{File}
use Rattle.model.specs.declared.Stopped.{Stopped}
use Rattle.model.proofs.All.{all_map}
use Rattle.model.proofs.Runs.{spent_then, spent_away}
use Rattle.file_read.specs.Files.{Proper}
use Rattle.file_append.specs.Extents.{append_data}
use Rattle.file_append.proofs.Apart.{append_inside}

module _ (l : Layout) (f : File) (d : Span) {limit left : ℕ} {e x : List ℕ} {r : Result Unit Stopped}
    (so : Spent limit left (append_data l (card_of e) f d) e x r) where
  pub front_kept : Shape l → Proper l (card_of e) f → (s : ℕ) → s < l.start → card_of x s ≡ card_of e s
  front_kept sh h s less = spent_away so s
      (all_map (λ t. (l.start ≤ t.sector) × (t.sector < l.total)) (λ t. s ≡ t.sector → ⊥)
      (λ t q same. let low : l.start ≤ t.sector = q.0 in omega arith) (append_data l (card_of e) f d) (append_inside l (card_of e) f d sh h))

  -- Stores that are computed from what lies before the data.
  pub data_then : {u : Unit} → r ≡ Ok u → (next : Card → List Store) → next (card_of x) ≡ next (card_of e)
      → {n : ℕ} {y : List ℕ} {q : Result Unit Stopped} → Spent left n (next (card_of x)) x y q
      → Spent limit n (append_data l (card_of e) f d ++ next (card_of e)) e y q
  data_then g next same then = spent_then g so (rw same at then)
