use Rattle.std.proofs.Common.{◌≡◌, ◌++◌, arith, drop, get_or, length, subst, sym, take}
use Rattle.std.proofs.lemmas.List.{take_at}
use Rattle.ld_graph.specs.Inner.Insides.{AreLevelsFor, IsNearInside, component_at}
use Rattle.ld_graph.proofs.inside.Distances.search.Goals as goal

pub returns-clause-levels : goal.returns-clause-levels
returns-clause-levels c = λ i d within.
    let new = c.measure.new.levels in
    let old = take c.self.inside.levels.len (c.forget.new.levels ++ drop (length c.forget.new.levels) c.self.inside.levels.items) in
    let same : take c.self.inside.levels.len (new ++ drop (length new) old) ≡ new =
    take_at new (drop (length new) old) c.self.inside.levels.len (omega (arith, c.measure.auto.levels, c.forget.auto.levels, c.deref_mut.ensures.len, c.deref_mut-2.ensures.len)) in
    subst (AreLevelsFor (λ a b. IsNearInside c.args.lists.now.before.lists c.args.components (component_at c.args.components c.args.end) b a)
    (get_or c.args.wanted.now i d) c.args.end) (sym same) (c.measure.ensures.levels i d within)
