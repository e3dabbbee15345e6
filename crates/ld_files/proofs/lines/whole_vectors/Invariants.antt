-- The LFs of the vectors so far are counted.
use Rattle.std.proofs.Common.{◌≡◌, ◌≤◌, ◌-◌, count_by, length, take}
use Rattle.ld_files.specs.Streams.{is_lf}
use Rattle.ld_files.proofs.lines.whole_vectors.Given as goal

abbrev pub invariant-loop-len : goal.invariant-loop-len
invariant-loop-len l = record {
  within : l.len ≤ length l.bytes;
  ends : l.ends ≡ count_by is_lf (take l.len l.bytes);
}

abbrev pub decreases-loop-len : goal.decreases-loop-len
decreases-loop-len l = length l.bytes - l.len
