-- The known lines that match nothing in the book's report, and their number.
use Rattle.std.proofs.Common.{rules}
use Rattle.lockgraph.proofs.fixed.fixed_in.Goals as goal

pub returns-clause-fixed : goal.returns-clause-fixed
returns-clause-fixed c = record {
  report = c.in_ok-report.report.items;
  is = c.in_ok-report.ensures.text;
  text_is = search rules;
  verdict_is = search rules;
}
