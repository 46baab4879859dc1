use mathlib.Core.Path.{sym, ap, ◌∙◌}
use Prim.Native.Nat.{◌+◌}
use Rattle.model.specs.Bytes.{Bytes}
use Rattle.model.specs.Sector.{card_of}
use Rattle.model.specs.Fat.{Fat, fat_at}
use Rattle.fat_copy.proofs.Laws.{loaded, led, lead_none, lead_away}
use Rattle.fat_copy.proofs.load_leading.Goals as goal
use Rattle.fat_copy.proofs.load_leading.Goals.{else-k-ne0-via-then-k-ne0+else-k-s, else-k-ne0-via-else-k-ne0}

pub returns-then-k-s : goal.returns-then-k-s
returns-then-k-s c =
    let a = c.args in
    let buf = c.copy_from_slice in
    λ j h. led buf.new.self c.put_entry.new.buf (fat_at (card_of a.w.now) a.fat) a.k a.v a.s j c.if-k-ne0.true (sym c.if-k-s.true)
    (loaded buf.new.self a.w.now (a.fat + a.s) (rw (← buf.ensures.after) at c.bytes.ensures.1) j h) (c.put_entry.ensures j)

pub returns-else-k-ne0 : goal.returns-else-k-ne0
returns-else-k-ne0 c =
    let a = c.args in
    let buf = c.copy_from_slice in
    let f = fat_at (card_of a.w.now) a.fat in
    λ j h. loaded buf.new.self a.w.now (a.fat + a.s) (rw (← buf.ensures.after) at c.bytes.ensures.1) j h
    ∙ elim c.else-k-ne0.branch [
      | else-k-ne0-via-then-k-ne0+else-k-s w ↦ ap (λ (b : Bytes). b j) (sym (lead_away a.k a.v f a.s (λ e. w.if-k-s.false (sym e))))
      | else-k-ne0-via-else-k-ne0 w ↦ ap (λ (g : Fat). g a.s j) (sym (lead_none a.k a.v f w.if-k-ne0.false))
    ]
