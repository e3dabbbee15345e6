-- The LFs of the whole vectors and those of what is left are all of them.
use Rattle.std.proofs.Common.{arith}
use Rattle.ld_files.proofs.LineLemmas.{ends-behind}
use Rattle.ld_files.proofs.lines.line_end_count.Goals as goal

pub returns-clause-count : goal.returns-clause-count
returns-clause-count c =
    omega (arith, ends-behind c.args.bytes.now c.whole_vectors-front.result.len, c.whole_vectors-front.ensures.ends, c.few_line_ends.ensures.count)
