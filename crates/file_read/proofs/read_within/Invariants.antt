use Rattle.std.proofs.Common.{◌≡◌, ℕ, ◌+◌, ◌-◌, ◌/◌, ◌≤◌, ◌<◌}
use lib.ListN.{get_or}
use Rattle.model.specs.Bytes.{bytes_of, overlay, part}
use Rattle.model.specs.Sector.{card_of}
use Rattle.model.specs.Fat.{entry, fat1_of}
use Rattle.fat_chain.specs.Links.{links}
use Rattle.file_read.proofs.Laws.{along}
use Rattle.file_read.proofs.read_within.Given as goal

abbrev pub invariant-loop-done : goal.invariant-loop-done
invariant-loop-done l = record {
  within : l.done ≤ l.count;
  at : l.cluster ≡ links (entry (fat1_of l.l (card_of l.w))) l.index l.initial.cluster;
  small : l.cluster < 65536;
  low : l.index ≤ (l.offset + l.done) / 512 / l.l.factor;
  bytes : (j : ℕ) → get_or l.buffer j 0
      ≡ overlay l.done (part (along l.l (card_of l.w) l.initial.cluster) l.offset) 0 (bytes_of l.initial.buffer) j;
}

abbrev pub decreases-loop-done : goal.decreases-loop-done
decreases-loop-done l = l.count - l.done
