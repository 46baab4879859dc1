-- The text of a create, as a list of bytes and as a span.
use mathlib.Core.Path.{◌≡◌, fun_ext}
use Rattle.model.specs.Bytes.{view, bytes_of}
use Rattle.operations.specs.Plan.{text_of}
use mathlib.Core.Logic.{⊎_elim}
use mathlib.Core.List.{List}
use Prim.Native.Nat.{ℕ}
use lib.ListN.{length, get_or-eq_default}
use borrow.Author.Tests.{lt-ltb, le-ltb}
use Rattle.model.proofs.Tests.{less?}

-- The characters in a slice, with nothing but zeros after them.
pub view_text : (xs : List ℕ) → bytes_of xs ≡ text_of (view xs)
view_text xs = fun_ext (λ i. ⊎_elim (λ less. rw (lt-ltb i (length xs) less))
    (λ more. rw (le-ltb i (length xs) more) (get_or-eq_default xs 0 {n = i} more)) (less? i (length xs)))
