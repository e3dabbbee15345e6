-- The book lists the stream's traces in some order.
use Rattle.std.proofs.lemmas.Result.{IfOk-weaker}
use Rattle.ld_trace.specs.Sources.{sources}
use Rattle.ld_check.proofs.OfReport.Permuted.{verdict-permuted}
use Rattle.lockgraph.proofs.rows.rows_told.Goals as goal

pub returns-clause-verdict : goal.returns-clause-verdict
returns-clause-verdict g c =
    IfOk-weaker c.rows_told_in-told.result _ _
    (λ told is. verdict-permuted (sources c.args.bytes.now) c.in_ok-checked.checked.book c.in_ok-checked.ensures.book told.verdict is)
    c.rows_told_in-told.ensures.verdict
