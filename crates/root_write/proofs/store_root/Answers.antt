use mathlib.Core.Path.{◌≡◌, refl}
use Prim.Native.Nat.{◌/◌}
use native.Mathlib.Omega.{arith}
use Rattle.std.proofs.lemmas.Result.{err_from_is_err_and}
use Rattle.model.specs.Bytes.{bytes_of}
use Rattle.model.specs.Sector.{card_of}
use Rattle.model.specs.Record.{with_text}
use Rattle.model.proofs.Runs.{spends_none, spends_more, spends_cut}
use Rattle.root_write.specs.Slots.{root_turn}
use Rattle.root_write.proofs.Laws.{root_turns, turn_same}
use Rattle.root_write.proofs.store_root.Goals as goal

pub loop-r-init : goal.loop-r-init
loop-r-init c = spends_none _ _ _

pub returns-in_err-store_concerned : goal.returns-in_err-store_concerned
returns-in_err-store_concerned c =
    let a = c.args in
    let x = with_text a.o (bytes_of a.text.now) in
    let h = c.requires in
    let so = c.loop-r.invariant in
    let same = turn_same a.l x h.held.fits.shape.whole_sectors h.slots.0 (card_of a.w.now) refl so (omega arith) in
    let p = err_from_is_err_and c.from_residual.result c.from_residual.ensures.1 in
    rw (p.1, ← root_turns a.l x (card_of a.w.now))
    (spends_cut (root_turn a.l x (card_of a.w.now)) so (rw same at c.store_concerned.ensures) c.in_err-store_concerned.was (a.l.entries / 16) (omega arith))

pub loop-r-preserved : goal.loop-r-preserved
loop-r-preserved c =
    let a = c.args in
    let x = with_text a.o (bytes_of a.text.now) in
    let h = c.requires in
    let so = c.loop-r.invariant in
    let same = turn_same a.l x h.held.fits.shape.whole_sectors h.slots.0 (card_of a.w.now) refl so (omega arith) in
    spends_more (root_turn a.l x (card_of a.w.now)) so (rw same at c.store_concerned.ensures) c.in_ok-store_concerned.was

pub returns : goal.returns
returns c =
    let a = c.args in
    let o = c.loop-r in
    let end : o.r ≡ a.l.entries / 16 = omega arith in
    rw (← root_turns a.l (with_text a.o (bytes_of a.text.now)) (card_of a.w.now)) (rw end at o.invariant)
