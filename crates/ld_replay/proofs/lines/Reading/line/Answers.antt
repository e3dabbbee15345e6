-- The line is the first that is left.
use Rattle.std.proofs.Common.{ap, ◌∙◌, arith}
use Rattle.ld_trace.specs.Lines.{lines}
use Rattle.ld_replay.specs.Inner.Replay.{lines_from}
use Rattle.ld_replay.proofs.LineLemmas.{line-here}
use Rattle.ld_replay.proofs.lines.Reading.line.Goals as goal

pub returns-in-Some-next_line-clause-line : goal.returns-in-Some-next_line-clause-line
returns-in-Some-next_line-clause-line c source is =
    let bound = c.loop-self.invariant.bound in
    c.loop-self.invariant.reading source is c.args.number bound
    ∙ ap (λ ls. lines_from c.loop-self.self.number ls c.args.number) c.in-Some-next_line.ensures.first
    ∙ line-here c.loop-self.self.number c.in-Some-next_line.line.now (lines c.in-Some-next_line._rest.now) c.args.number (omega (arith, c.loop-self-test.false))
