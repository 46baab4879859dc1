use Prim.Native.Nat.{◌*◌, ◌%◌}
use native.Mathlib.Omega.{arith}
use Rattle.fat_copy.proofs.Laws.{put_pair}
use Rattle.fat_copy.proofs.put_entry.Goals as goal

pub returns : goal.returns
returns c = put_pair c.args.buf.now (2 * (c.args.k % 256)) c.args.v (omega arith) (omega arith)
