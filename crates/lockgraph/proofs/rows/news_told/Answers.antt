-- The book lists the stream's traces in some order.
use Rattle.std.proofs.lemmas.Result.{IfOk-weaker}
use Rattle.ld_trace.specs.Sources.{sources}
use Rattle.lockgraph.proofs.NewsLemmas.{comes-permuted}
use Rattle.lockgraph.proofs.rows.news_told.Goals as goal

pub returns-clause-verdict : goal.returns-clause-verdict
returns-clause-verdict g c =
    IfOk-weaker c.news_told_in-told.result _ _
    (λ told is. comes-permuted (sources c.args.bytes.now) c.in_ok-checked.checked.book c.in_ok-checked.ensures.book c.args.known.now told.verdict is)
    c.news_told_in-told.ensures.verdict
