-- The book lists the stream's traces in some order.
use Rattle.std.proofs.lemmas.Result.{IfOk-weaker}
use Rattle.std.proofs.Common.{map}
use Rattle.ld_trace.specs.Sources.{plain, sources}
use Rattle.lockgraph.proofs.NewsLemmas.{told-permuted}
use Rattle.lockgraph.proofs.news.news_of.Goals as goal

pub returns-clause-news : goal.returns-clause-news
returns-clause-news g c =
    IfOk-weaker c.told_in-news.result _ _
    (λ news is. told-permuted c.args.telling (sources c.args.bytes.now) c.in_ok-checked.checked.book (map plain c.in_ok-checked.checked.sources.items) c.in_ok-checked.ensures.book c.in_ok-checked.ensures.sources c.args.places.now c.args.known.now news.text.items news.verdict is)
    c.told_in-news.ensures.news
