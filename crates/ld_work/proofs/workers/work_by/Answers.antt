use Rattle.std.proofs.Common.{◌<◌, get_or, subst, sym}
use Rattle.std.proofs.lemmas.List.{get_or-map, length-map}
use Rattle.ld_trace.specs.Sources.{plain}
use Rattle.ld_work.proofs.workers.work_by.Goals as goal

-- each source is one of the sources
pub work_at-requires-clause-scope : goal.work_at-requires-clause-scope
work_at-requires-clause-scope g c κs _ k d within =
    let sources = c.args.sources.now in
    (k, subst (λ n. k < n) (sym (length-map sources plain)) within, get_or-map plain sources k d (plain (get_or sources k d)) within)
