use Rattle.std.proofs.Common.{◌≡◌, false, ◌-◌, ◌≤◌, length, take}
use Rattle.std.specs.Io.KnownBytes.{Appends}
use Rattle.ld_io.proofs.transfer.send.Given as goal

abbrev pub invariant-writes : goal.invariant-writes
invariant-writes g l = record {
  within : l.sent ≤ length l.text;
  written : Appends (g.O.Output.held l.fn.output) (g.O.Output.held l.output) (take l.sent l.text);
  sound : g.O.Output.write_failed l.output ≡ false;
}

abbrev pub decreases-writes : goal.decreases-writes
decreases-writes g l = length l.text - l.sent
