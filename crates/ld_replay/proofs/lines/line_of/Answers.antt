-- A line before the first isn't there.
use Rattle.ld_trace.specs.Lines.{lines}
use Rattle.ld_trace.specs.Sources.{plain}
use Rattle.ld_replay.proofs.LineLemmas.{line-above}
use Rattle.ld_replay.proofs.lines.line_of.Goals as goal

pub returns-then-number-source-clause-line : goal.returns-then-number-source-clause-line
returns-then-number-source-clause-line c = line-above c.args.source.first_line (lines c.args.source.bytes.now) c.args.number c.if-number-source.true

pub returns-then-number-reading-clause-reading : goal.returns-then-number-reading-clause-reading
returns-then-number-reading-clause-reading c = c.line.ensures.reading (plain c.args.source) c.new.ensures.reading

pub returns-clause-reading : goal.returns-clause-reading
returns-clause-reading c = c.line-2.ensures.reading (plain c.args.source) c.requires
