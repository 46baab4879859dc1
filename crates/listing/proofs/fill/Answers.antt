use Rattle.std.proofs.Common.{refl, arith, rules}
use Rattle.model.specs.Bytes.{view}
use Rattle.listing.proofs.Fills.{upto_none, upto_more, filled_full, filled_done}
use Rattle.listing.proofs.fill.Goals as goal

pub loop-i-init : goal.loop-i-init
loop-i-init c = upto_none (view c.args.table.now) c.args.from _ (omega arith)

pub overflow_sub-text : goal.overflow_sub-text
overflow_sub-text c = c.loop-i.invariant.fits

pub returns-then-text-lt119 : goal.returns-then-text-lt119
returns-then-text-lt119 c = filled_full refl c.loop-i.invariant (search rules) (omega arith) c.requires.1 c.if-text-lt119.true

pub loop-i-preserved : goal.loop-i-preserved
loop-i-preserved c = upto_more refl c.loop-i.invariant c.if-text-lt119.false c.put_piece.ensures.0 c.put_piece.ensures.1

pub returns : goal.returns
returns c = filled_done refl c.loop-i.invariant (search rules) (omega arith) c.pieces-n.ensures
