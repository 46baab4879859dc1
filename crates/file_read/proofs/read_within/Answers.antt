use Rattle.std.proofs.Common.{◌≡◌, ℕ, ◌+◌, ◌-◌, ◌/◌, ◌≤◌, ◌<◌, refl, sym, arith, rules}
use native.Mathlib.Nat.{div-le_self}
use Rattle.model.specs.Bytes.{bytes_of, part}
use Rattle.model.specs.Sector.{card_of}
use Rattle.model.specs.Fat.{entry, fat1_of}
use Rattle.model.specs.Chain.{needed}
use Rattle.model.proofs.Overlays.{overlay_none}
use Rattle.model.proofs.Needed.{div_mono}
use Rattle.fat_chain.specs.Links.{links}
use Rattle.fat_chain.proofs.Links.{links_none}
use Rattle.file_read.proofs.Laws.{links_on, link_inside, reaches, in_needed, along, read_more, read_all}
use Rattle.file_read.proofs.read_within.Goals.{After-follow-cluster}
use Rattle.file_read.proofs.read_within.Goals as goal

-- The cluster reached is that of the byte that is read next.
reached : (c : After-follow-cluster)
    → c.follow-cluster.result
    ≡ links (entry (fat1_of c.args.l (card_of c.args.w.now))) ((c.args.offset + c.loop-done.done) / 512 / c.args.l.factor) c.args.f.first
reached c =
    let o = c.loop-done in
    links_on _ c.args.f.first o.cluster o.index _ c.follow-cluster.result o.invariant.at o.invariant.low c.follow-cluster.ensures.0

-- Nothing is to be read.
pub returns-then-count-eq0 : goal.returns-then-count-eq0
returns-then-count-eq0 c =
    let a = c.args in
    read_all a.l (card_of a.w.now) a.f a.offset _ a.buffer.now c.requires.0.fits.shape.factor_low a.buffer.now 0 0
    (omega (arith, c.min-count.ensures)) refl
    (λ j. sym (overlay_none (part (along a.l (card_of a.w.now) a.f.first) a.offset) 0 (bytes_of a.buffer.now) j))

pub loop-done-init : goal.loop-done-init
loop-done-init c =
    let a = c.args in
    let h = c.requires in
    let e = entry (fat1_of a.l (card_of a.w.now)) in
    let z : 0 < needed a.l a.f.size = omega (arith, in_needed a.l h.0.fits.shape.factor_low a.f.size a.offset h.2) in
    record {
      within = search rules;
      at = sym (links_none e a.f.first);
      small = omega (arith, link_inside a.l h.0.fits e a.f.first a.f.size h.1 0 z, links_none e a.f.first, h.0);
      low = search rules;
      bytes = λ j. sym (overlay_none (part (along a.l (card_of a.w.now) a.f.first) a.offset) 0 (bytes_of a.buffer.now) j);
    }

pub sector_in-s-requires : goal.sector_in-s-requires
sector_in-s-requires c =
    let a = c.args in
    let h = c.requires in
    let at : ℕ = a.offset + c.loop-done.done in
    let some = in_needed a.l h.0.fits.shape.factor_low a.f.size at (omega (arith, c.min-count.ensures, h.2)) in
    let r = link_inside a.l h.0.fits (entry (fat1_of a.l (card_of a.w.now))) a.f.first a.f.size h.1 (at / 512 / a.l.factor) some in
    let is = reached (goal.at.sector_in-s-requires c).After-follow-cluster in
    (h.0.fits, rw is r.0, rw is r.1)

pub sectors_ahead-m-requires : goal.sectors_ahead-m-requires
sectors_ahead-m-requires c =
    let a = c.args in
    let h = c.requires in
    let one = h.0.fits.shape.factor_low in
    let at : ℕ = a.offset + c.loop-done.done in
    let x : ℕ = at / 512 / a.l.factor in
    let end : ℕ = a.offset + c.min-count.result - 1 in
    let inside = in_needed a.l one a.f.size end (omega (arith, c.min-count.ensures, h.2)) in
    let below = div_mono a.l.factor (at / 512) (end / 512) one (omega arith) in
    let small : end / 512 / a.l.factor ≤ end / 512 = div-le_self (end / 512) a.l.factor in (
      h.0,
      reaches a.l h.0.fits (entry (fat1_of a.l (card_of a.w.now))) a.f.first a.f.size h.1 c.follow-cluster.result x
          (end / 512 / a.l.factor - x) (reached (goal.at.sectors_ahead-m-requires c).After-follow-cluster) (omega (arith, inside, below)),
      omega (arith, small),
    )

pub loop-done-preserved : goal.loop-done-preserved
loop-done-preserved c =
    let a = c.args in
    let o = c.loop-done in
    let got = c.read_sectors-done.ensures in
    let one = c.requires.0.fits.shape.factor_low in
    let is = reached (goal.at.loop-done-preserved c).After-follow-cluster in
    record {
      within = omega (arith, got.reached);
      at = is;
      small = c.follow-cluster.ensures.1;
      low = div_mono a.l.factor ((a.offset + o.done) / 512) ((a.offset + c.read_sectors-done.result) / 512) one (omega (arith, got.reached));
      bytes = read_more a.l one (card_of a.w.now) a.f.first c.follow-cluster.result c.sector_in-s.result c.sectors_ahead-m.result
          a.offset o.done c.min-count.result c.read_sectors-done.result a.buffer.now o.buffer c.read_sectors-done.new.buffer is
          c.sector_in-s.ensures.0 c.sectors_ahead-m.ensures.0 c.sectors_ahead-m.ensures.3 got o.invariant.bytes;
    }

pub returns : goal.returns
returns c =
    let a = c.args in
    read_all a.l (card_of a.w.now) a.f a.offset _ a.buffer.now c.requires.0.fits.shape.factor_low c.loop-done.buffer
    c.min-count.result c.loop-done.done c.min-count.ensures (omega arith) c.loop-done.invariant.bytes
