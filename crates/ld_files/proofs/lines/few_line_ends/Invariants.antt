use Rattle.std.proofs.Common.{◌≡◌, count_by, take}
use Rattle.ld_files.specs.Streams.{is_lf}
use Rattle.ld_files.proofs.lines.few_line_ends.Given as goal

abbrev pub invariant-loop-byte : goal.invariant-loop-byte
invariant-loop-byte l = l.count ≡ count_by is_lf (take l.byte-index l.bytes)
