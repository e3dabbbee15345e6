-- The verdict is that of what is new in the book's report.
use Rattle.std.proofs.Common.{rules}
use Rattle.lockgraph.proofs.rows.news_told_in.Goals as goal

pub returns-clause-verdict : goal.returns-clause-verdict
returns-clause-verdict c = λ after. record {
  report = after.in_ok-report.report.items;
  is = after.in_ok-report.ensures.text;
  verdict_is = search rules;
}
