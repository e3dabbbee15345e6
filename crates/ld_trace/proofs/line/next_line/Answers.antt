-- The first line ends at the first LF, or is all of the bytes.
use Rattle.std.proofs.Common.{rules, add-one}
use Rattle.ld_trace.proofs.LineLemmas.{lines-cut, lines-one}
use Rattle.ld_trace.proofs.line.next_line.Goals as goal

pub returns-in-Some-clause-first : goal.returns-in-Some-clause-first
returns-in-Some-clause-first c =
    let found = c.in-Some.ensures in
    rw (c.split_at.ensures.front, c.split_at.ensures.back, add-one) (lines-cut c.args.bytes.now c.in-Some.at found.0.high found.0.before found.1)

pub returns-in-None-clause-first : goal.returns-in-None-clause-first
returns-in-None-clause-first c = lines-one c.args.bytes.now (search rules) c.in-None.ensures
