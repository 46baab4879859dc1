use mathlib.Core.Path.{◌≡◌, refl}
use native.Mathlib.Omega.{arith}
use lib.ListN.{length}
use Rattle.model.specs.Sector.{card_of}
use Rattle.model.specs.Root.{slot_at, listed}
use Rattle.operations.specs.Reading.{shown}
use Rattle.model.proofs.Scan.{indices_none}
use Rattle.call_read.proofs.Entries.{listed_le, listing_none, listing_step, shown_past}
use borrow.Author.Rules.{rules}
use Rattle.call_read.proofs.copy_listed.Goals as goal

pub loop-k-init : goal.loop-k-init
loop-k-init c =
    let a = c.args in
    let c' = card_of a.w.now in (
      search rules,
      search rules,
      refl,
      rw (indices_none (λ k. listed (slot_at a.l c' k)) 0)
          (listing_none a.l c' (length a.out.now) a.out.now),
    )

pub overflow_add-k : goal.overflow_add-k
overflow_add-k c = omega (arith, (c.is_blank.ensures c.if-is_blank.true).0)

pub loop-k-preserved-then-is_blank : goal.loop-k-preserved-then-is_blank
loop-k-preserved-then-is_blank c =
    let turn = c.loop-k in
    let a = c.args in
    let b = c.is_blank.ensures c.if-is_blank.true in
    (b.0, search rules, search rules, rw (shown_past a.l (card_of a.w.now) turn.k 16 b.1) turn.invariant.3)

pub loop-k-preserved : goal.loop-k-preserved
loop-k-preserved c =
    let a = c.args in
    let turn = c.loop-k in
    let list-slot = c.list_slot-n in
    let c' = card_of a.w.now in (
      search rules,
      omega (
        arith,
        listed_le a.l c' turn.k turn.n a.out.now turn.out
            list-slot.new.out list-slot.result list-slot.ensures,
      ),
      search rules,
      listing_step a.l c' turn.k turn.n a.out.now
          turn.out list-slot.new.out list-slot.result list-slot.ensures turn.invariant.3 turn.invariant.2,
    )

pub returns : goal.returns
unfolding shown
returns c = let e : c.loop-k.k ≡ c.args.l.entries = omega arith in rw e at c.loop-k.invariant.3
