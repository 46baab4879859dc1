use Rattle.std.proofs.Common.{◌∙◌, ap, arith}
use lib.ListN.{drop}
use lib.Seq.{get_or-take, get_or-drop}
use Rattle.model.specs.Listing.{shown_byte}
use Rattle.model.specs.Bytes.{bytes_of, part}
use Rattle.listing_text.proofs.Buffer.{put_then}
use Rattle.listing_text.proofs.Shown.{shown_more}
use Rattle.listing_text.proofs.Text.shown.Goals as goal

pub loop-b-preserved : goal.loop-b-preserved
loop-b-preserved c =
    let a = c.args in
    let i = c.loop-b.b-index in
    let e = get_or-take _ (drop a.from a.s.now) i 0 (omega arith) ∙ get_or-drop a.from a.s.now i 0 in
    rw (shown_more i (part (bytes_of a.s.now) a.from)) (put_then c.loop-b.invariant (rw (c.shown_byte.ensures ∙ ap shown_byte e) at c.byte.ensures))
