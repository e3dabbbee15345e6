use Rattle.std.proofs.Common.{◌-◌, ◌∷◌, [], ap, arith, cond, false, length, None, subst, sym, ℕ}
use Rattle.std.proofs.lemmas.List.{length_push}
use Rattle.std.proofs.lemmas.List.Sums.{sum_by-append}
use Rattle.ld_graph.specs.Edges.{IsEdge}
use Rattle.ld_graph.specs.Inner.KeptReach.{reach_of}
use Rattle.ld_graph.specs.Reach.{IsReach, PlainReach}
use Rattle.ld_graph.proofs.ReachLemmas.{IsReach-added}
use Rattle.ld_graph.proofs.reach.Reach.add_class.Goals as goal

pub returns-clause-exact : goal.returns-clause-exact
returns-clause-exact c = λ edges seeds exact.
    rw (c.add_class.ensures.each, c.add_class.ensures.reached, c.add_class-2.ensures.each, c.add_class-2.ensures.count)
    (IsReach-added (IsEdge edges) seeds (reach_of c.self.inside) (c.self.inside.spare - 1) (subst (IsReach (IsEdge edges) seeds) (sym c.self.view_is) exact))

pub invariant_of-self : goal.invariant_of-self
invariant_of-self c =
    let i = c.self.invariant in
    let less = ap (λ (r : PlainReach). r.spare) c.self.view_is in
    let marks = sum_by-append (λ m. cond {A = ℕ} m 1 0) c.self.inside.marks.each (false ∷ []) in
    let len = ap length c.add_class-2.ensures.each in
    let one = length_push c.self.inside.marks.each false in
    let sources = ap length c.add_class.ensures.each in
    let one_source = length_push c.self.inside.sources.each None in
    record {
      same = omega (arith, i.same, sources, one_source, len, one);
      counted = rw (c.add_class-2.ensures.each) (omega (arith, i.counted, marks, c.add_class-2.ensures.count));
      room_sources = omega (arith, i.room_sources, c.requires, len, one, c.add_class.ensures.room, less);
      room_marks = omega (arith, i.room_marks, c.requires, len, one, c.add_class-2.ensures.room, less);
      few = omega (arith, i.few, c.requires, len, one, less);
    }
