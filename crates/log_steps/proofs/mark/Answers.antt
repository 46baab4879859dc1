use mathlib.Core.Path.{◌≡◌, sym}
use native.Mathlib.Omega.{arith}
use Rattle.model.specs.Bytes.{bytes_of}
use Rattle.model.proofs.Pieces.{committed_none, committed_more}
use Rattle.log_steps.proofs.mark.Goals as goal

pub loop-k-init : goal.loop-k-init
loop-k-init c = λ j. sym (committed_none (bytes_of c.args.buf.now) j)

pub loop-k-preserved : goal.loop-k-preserved
loop-k-preserved c = committed_more c.loop-k.k (bytes_of c.args.buf.now) c.loop-k.buf (omega arith) c.loop-k.invariant

pub returns : goal.returns
returns c = let end : c.loop-k.k ≡ c.args.n = omega arith in λ j. rw end at (c.loop-k.invariant j)
