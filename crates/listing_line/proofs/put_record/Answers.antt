use Rattle.std.proofs.Common.{◌*◌, ◌/◌, ◌%◌, arith}
use Rattle.model.specs.Bytes.{bytes_of, part}
use Rattle.listing_text.proofs.Buffer.{put_then}
use Rattle.listing_line.proofs.Laws.{line_is}
use Rattle.listing_line.proofs.put_record.Goals as goal

pub returns : goal.returns
returns c =
    let k = c.args.k in (
      rw (line_is (k / 16) (k % 16) (part (bytes_of c.args.table.now) (32 * k)), ← c.numbers_of-n.ensures)
          (put_then c.put_head.ensures.0 (put_then c.name.ensures.0 (put_then c.put_slot.ensures.0 c.put_size.ensures.0))),
      omega arith,
    )
