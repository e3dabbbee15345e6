use Rattle.std.proofs.Common.{◌≡◌, ◌-◌, ◌≤◌, false, length, vec_len}
use Rattle.std.specs.Io.KnownBytes.{Consumes}
use Rattle.ld_io.specs.Inner.Reading.{Gains}
use Rattle.ld_io.specs.declared.transfer.TheConstants.{CHUNK}
use Rattle.ld_io.proofs.transfer.read_up_to.Given as goal

abbrev pub invariant-chunks : goal.invariant-chunks
invariant-chunks g l = record {
  gained : Gains l.fn.all.items l.all.items (Consumes (g.I.Input.left l.fn.input) (g.I.Input.left l.input));
  small : vec_len l.all ≤ l.len;
  chunk : length l.chunk ≡ CHUNK;
  sound : g.I.Input.read_failed l.input ≡ false;
  open_yet : g.I.Input.has_ended l.input ≡ false;
}

abbrev pub decreases-chunks : goal.decreases-chunks
decreases-chunks g l = l.len - vec_len l.all
