-- Names; a file that was found is the one in its slot; the slot for a new name.
use mathlib.Core.Path.{◌≡◌, refl, sym, ap, ◌∙◌, subst}
use Prim.Native.Nat.{ℕ, ◌+◌, ◌-◌, ◌<◌}
use mathlib.Core.Bool.{Bool, true, false, not}
use lib.Dec.{ltb}
use lib.ListN.{length}
use mathlib.Core.List.{List}
use borrow.Author.Tests.{eqb-true}
use Rattle.model.proofs.Tests.{every_at}
use Rattle.model.specs.Bytes.{Span, view, pick}
use Rattle.model.specs.Sector.{Card}
use Rattle.model.specs.Root.{name_ok, free_run, file_at, entry_at}
use Rattle.std.proofs.Common.{Result, Ok, Err}
use Rattle.std.specs.Result.{IfOk}
use Rattle.model.specs.Ground.{answer_of, refused, granted, ◌when◌, ◌>>◌}
use Rattle.model.specs.declared.Ground.{Ground}
use Rattle.model.specs.declared.Access.{Access}
use Rattle.model.specs.declared.File.{File}
use Rattle.model.specs.declared.Volume.{Volume}
use Rattle.operations.specs.Calls.{file_named, slot_of, taken, text_taken, root_full, new_slot}
use Rattle.operations.specs.Plan.{slots_for}
use Rattle.operations.proofs.Admitted.{admitted, named_is}
use Rattle.root_lookup.specs.Found.{Seated, run_answer}

-- A name has 11 bytes.
pub name_length : (xs : List ℕ) → name_ok (view xs) ≡ true → length xs ≡ 11
unfolding name_ok
name_length xs h = eqb-true _ _ (every_at _ h 0)

seated : (v : Volume) (c : Card) (a : Access) (n : Span) (f : File) → file_named a v c n ≡ granted f → Seated v c f
unfolding file_at entry_at
seated v c a n f h =
    let s : ℕ = slot_of v c n in
    let q = admitted v.layout c s a f (sym (named_is a v c n) ∙ h) in
    let slot : s ≡ f.entry.slot = ap (λ (f : File). f.entry.slot) q.is in
    record { slot = subst (λ k. k < v.layout.entries) slot q.in_root; is = sym q.is ∙ ap (file_at v.layout c) slot }

pub sits : (v : Volume) (c : Card) (a : Access) (n : Span) (r : Result File Ground) → answer_of r ≡ file_named a v c n → IfOk r (Seated v c)
sits v c a n (Err g) h = tt
sits v c a n (Ok f) h = seated v c a n f (sym h)

-- Where neither name is taken, the run decides.
pub untaken : (v : Volume) (c : Card) (n t : Span) → taken v c n ≡ false → text_taken v c t ≡ false → new_slot v c n t ≡ run_answer v.layout c (slots_for t)
unfolding new_slot root_full run_answer ◌when◌ ◌>>◌
untaken v c n t e f = rw (e, f) (go (ltb (free_run v.layout c (slots_for t + 1)) (v.layout.entries + 1 - (slots_for t + 1))))
  where
    s : ℕ
    s = free_run v.layout c (slots_for t + 1) + slots_for t

    go : (room : Bool) → ((Ground.Rootfull when not room) >> granted s) ≡ pick room (granted s) (refused Ground.Rootfull)
    go true = refl
    go false = refl
