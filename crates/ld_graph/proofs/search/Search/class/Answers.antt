use Rattle.std.proofs.Common.{Contains, arith, ap, sym, subst}
use Rattle.ld_graph.proofs.MarkLemmas.{found_below}
use Rattle.ld_graph.proofs.search.Search.class.Goals as goal

pub returns-clause-below : goal.returns-clause-below
returns-clause-below c = λ k n.
    let b = found_below c.self.inside.marks.items c.self.inside.found.items c.self.invariant.0 k
    (subst (λ s. Contains s.found k) (sym c.self.view_is) n) in
    let size = ap (λ s. s.size) c.self.view_is in
    omega (arith, b, size)
