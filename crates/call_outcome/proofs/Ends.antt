-- A call that ran its stores under a limit did what it should.
use Prim.Native.Nat.{ℕ, ◌-◌, ◌≤◌, ◌<◌}
use native.Mathlib.Omega.{arith}
use mathlib.Core.Path.{◌≡◌, refl, sym, ap}
use mathlib.Core.List.{List, []}
use lib.ListN.{length}
use borrow.Author.Tests.{leb-true, leb-false}
use Rattle.std.proofs.Common.{Result, Ok, Err}
use Rattle.model.specs.Sector.{card_of}
use Rattle.model.specs.Ground.{refused, granted}
use Rattle.model.specs.Promises.{Spent}
use Rattle.model.specs.declared.Ground.{Ground}
use Rattle.model.specs.declared.Stopped.{Stopped}
use Rattle.model.specs.Outcome.{Done, Stopped as Cut}
use Rattle.operations.specs.Program.{Program, ending, stores}
use Rattle.operations.specs.Outcome.{outcome, made}
use Rattle.model.specs.declared.Ended.TheVariants as Ended
use Rattle.model.proofs.Cards.{after_nil}
use Rattle.model.proofs.Runs.{spent_none}
use Rattle.call_outcome.specs.Did.{Did, ended_as}

pub did_refused : (limit : ℕ) (g : Ground) (e : List ℕ) → Did limit (refused g) e e (Err g)
unfolding outcome made
did_refused limit g e = record { answer = refl; card = sym (after_nil (card_of e)) }

pub did_spent : {limit left : ℕ} (p : Program) {e x : List ℕ} {r : Result Unit Stopped} → Spent limit left (stores p) e x r
    → Did limit (granted p) e x (Ok (ended_as r (limit - left)))
unfolding outcome made
did_spent {limit} {left} p {r = Ok _} so =
    let l : length (stores p) ≤ limit = leb-true (length (stores p)) limit (sym so.ran.all) in
    let n : limit - left ≡ length (stores p) = omega (arith, so.ran.stores) in
    record { answer = rw (← so.ran.all) (ap Done n); card = so.ran.card }
did_spent {limit} {left} p {r = Err _} so =
    let l : limit < length (stores p) = leb-false (length (stores p)) limit (sym so.ran.all) in
    let n : limit - left ≡ limit = omega (arith, so.ran.stores) in
    record { answer = rw (← so.ran.all) (ap Cut n); card = so.ran.card }

-- No store to make.
pub did_none : (limit : ℕ) (e : List ℕ) → Did limit (granted (ending [])) e e (Ok (Ended.Done 0))
did_none limit e =
    let none : limit - limit ≡ 0 = omega arith in
    let d : Did limit (granted (ending [])) e e (Ok (Ended.Done (limit - limit))) = did_spent (ending []) (spent_none limit e) in
    rw none at d
