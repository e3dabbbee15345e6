use Rattle.std.proofs.Common.{below_more, None, ap, get_or, sym, ◌∙◌}
use Rattle.std.specs.Option.{is_some}
use Rattle.std.proofs.lemmas.List.{get_or_default}
use Rattle.ld_graph.specs.Inner.Levels.{HasLevel, level_at}
use Rattle.ld_graph.proofs.SpreadLemmas.{some_is}
use Rattle.ld_graph.proofs.levels.known_front.Goals as goal

pub loop-known-preserved : goal.loop-known-preserved
loop-known-preserved c =
    let w = get_or c.args.wanted.now c.loop-known.known 0 in
    below_more (λ i. HasLevel c.args.levels.now (get_or c.args.wanted.now i 0)) _ c.loop-known.invariant
    (some_is (level_at c.args.levels.now w)
    (ap (λ o. is_some o) (get_or_default c.args.levels.now w None c.index-levels-wanted.result (c.requires.wanted c.loop-known.known 0 c.loop-known-test.true)
    ∙ sym c.index-levels-wanted.is) ∙ c.if-is_none.ensures))
