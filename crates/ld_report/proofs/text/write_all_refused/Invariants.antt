use Rattle.std.proofs.Common.{◌≡◌, ◌++◌, take}
use Rattle.ld_report.specs.Report.{refused_lines}
use Rattle.ld_batch.specs.Batch.{sources_of}
use Rattle.ld_report.proofs.text.write_all_refused.Given as goal

abbrev pub invariant-loop-trace : goal.invariant-loop-trace
invariant-loop-trace l = l.text.items ≡ l.fn.text.items ++ refused_lines (sources_of (take l.trace-index l.listed))
