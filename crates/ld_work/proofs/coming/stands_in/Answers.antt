use Rattle.std.proofs.Common.{rules, ap, get_or, length, subst, sym, ◌<◌, ◌≡◌, ◌∙◌}
use Rattle.std.proofs.lemmas.List.{get_or-map, length-map}
use Rattle.ld_trace.specs.Sources.{plain}
use Rattle.ld_work.proofs.coming.stands_in.Goals as goal

pub returns-in-Some : goal.returns-in-Some
returns-in-Some c same =
    let sources = c.args.sources.now in
    let place = c.args.trace.now.number in
    let source = c.in-Some.source.now in
    let within : place < length sources = search rules in
    let found : source ≡ get_or sources place source = c.in-Some.ensures.lookup.1 in (
      place,
      subst (λ n. place < n) (sym (length-map sources plain)) within,
      get_or-map plain sources place source (plain c.args.trace.now) within ∙ ap plain (sym found) ∙ c.is_same.ensures same,
    )
