-- A header that is left is one of the stream.
use Rattle.std.proofs.Common.{◌≡◌, true, length}
use Rattle.std.specs.List.{list_any}
use Rattle.ld_trace.specs.Lines.{lines}
use Rattle.ld_trace.specs.Sources.{is_header}
use Rattle.ld_files.proofs.streams.has_plain_header.Given as goal

abbrev pub invariant-loop-line : goal.invariant-loop-line
invariant-loop-line l = list_any is_header (lines l.rest) ≡ true → list_any is_header (lines l.bytes) ≡ true

abbrev pub decreases-loop-line : goal.decreases-loop-line
decreases-loop-line l = length l.rest
