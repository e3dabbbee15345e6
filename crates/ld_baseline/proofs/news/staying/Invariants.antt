-- What is written comes before what stays of the lines left.
use Rattle.std.proofs.Common.{◌≡◌, ◌+◌, ◌++◌, ◌≤◌, length}
use Rattle.ld_baseline.specs.Known.{is_among}
use Rattle.ld_baseline.specs.News.{count_staying, staying}
use Rattle.ld_baseline.proofs.news.staying.Given as goal

abbrev pub invariant-loop-line : goal.invariant-loop-line
invariant-loop-line l = record {
  text : l.text.items ++ staying (is_among l.known) l.rest ≡ staying (is_among l.known) l.report;
  count : l.count + count_staying (is_among l.known) l.rest ≡ count_staying (is_among l.known) l.report;
  within : l.count + length l.rest ≤ length l.report;
}

abbrev pub decreases-loop-line : goal.decreases-loop-line
decreases-loop-line l = length l.rest
