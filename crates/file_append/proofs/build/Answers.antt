use Rattle.model.specs.Sector.{card_of}
use Rattle.file_append.proofs.Bytes.{built}
use Rattle.file_append.proofs.build.Goals as goal

pub returns : goal.returns
returns c =
    let a = c.args in
    built (card_of a.w.now a.s) a.size a.new.now a.q c.below-a.result c.below-b.result c.requires.1 c.requires.2 c.below-a.ensures c.below-b.ensures
    c.bytes.result.now a.buf.now _ _ _ _ c.bytes.ensures.1 c.bytes.ensures.0 c.told-buf c.copy_from_slice.ensures.after c.copy_from_slice-2.ensures.after
    (c.fill.ensures.after (λ y e. e))
