-- The line is one of those that are left.
use Rattle.std.proofs.Common.{◌≡◌, length}
use Rattle.ld_trace.specs.Lines.{lines}
use Rattle.ld_files.specs.Quotes.{line_at}
use Rattle.ld_files.proofs.quote.line_at.Given as goal

abbrev pub invariant-loop-line : goal.invariant-loop-line
invariant-loop-line l = line_at (lines l.rest) l.left ≡ line_at (lines l.bytes) l.number

abbrev pub decreases-loop-line : goal.decreases-loop-line
decreases-loop-line l = length l.rest
