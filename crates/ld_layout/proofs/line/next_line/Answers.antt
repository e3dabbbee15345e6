-- The first line ends at the first LF, or is all of the text.
use Rattle.std.proofs.Common.{rules, arith, add-one}
use Rattle.ld_layout.proofs.LineLemmas.{lines-first, lines-one}
use Rattle.ld_layout.proofs.line.next_line.Goals as goal

pub returns-then-len-text-clause-first : goal.returns-then-len-text-clause-first
returns-then-len-text-clause-first c = lines-one c.args.text.now (search rules) (search (rules, c.line_len-len.ensures.front, c.if-len-text.true))

pub returns-clause-first : goal.returns-clause-first
returns-clause-first c =
    rw (c.split_at.ensures.front, c.split_at-2.ensures.back, add-one) (lines-first c.args.text.now c.line_len-len.result (search rules) (omega arith))
