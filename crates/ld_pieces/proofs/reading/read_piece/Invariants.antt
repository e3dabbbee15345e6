use Rattle.std.proofs.Common.{◌≡◌, ◌+◌, ◌-◌, ◌≤◌, false, length, vec_len}
use Rattle.std.specs.Io.KnownBytes.{Consumes}
use Rattle.ld_io.specs.Inner.Reading.{Gains}
use Rattle.ld_io.specs.declared.transfer.TheConstants.{CHUNK, MOST_READ}
use Rattle.ld_pieces.specs.declared.reading.TheConstants.{PIECE}
use Rattle.ld_pieces.proofs.reading.read_piece.Given as goal

abbrev pub invariant-reads : goal.invariant-reads
invariant-reads g l = record {
  gained : Gains l.fn.ahead.items l.all.items (Consumes (g.I.Input.left l.fn.input) (g.I.Input.left l.input));
  small : vec_len l.all ≤ l.most;
  chunk : length l.chunk ≡ CHUNK;
  sound : g.I.Input.read_failed l.input ≡ false;
  open_yet : g.I.Input.has_ended l.input ≡ false;
  most : l.most + l.total ≡ MOST_READ + vec_len l.fn.ahead;
  least : PIECE ≤ l.least;
}

abbrev pub decreases-reads : goal.decreases-reads
decreases-reads g l = l.most - vec_len l.all
