-- What was read so far are the pieces, and what is ahead of them.
use Rattle.std.proofs.Common.{◌≡◌, ◌+◌, ◌++◌, ◌≤◌, false, length, vec_len}
use Rattle.std.specs.Io.KnownBytes.{Consumes}
use Rattle.ld_io.specs.declared.transfer.TheConstants.{CHUNK, MOST_READ}
use Rattle.ld_check.proofs.reading.read_pieces.Given as goal

abbrev pub invariant-loop-cell : goal.invariant-loop-cell
invariant-loop-cell g l = record {
  consumed : Consumes (g.I.Input.left l.fn.input) (g.I.Input.left l.input) (l.pieces ++ l.ahead.items);
  within : length l.pieces + vec_len l.ahead ≤ MOST_READ;
  chunk : vec_len l.chunk ≡ CHUNK;
  sound : g.I.Input.read_failed l.input ≡ false;
  open_yet : g.I.Input.has_ended l.input ≡ false;
}
