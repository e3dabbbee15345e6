use Rattle.std.proofs.Common.{refl, subst, sym, ◌∙◌}
use Rattle.ld_graph.specs.Edges.{IsEdge}
use Rattle.ld_graph.proofs.EdgeLemmas.{IsEdge-found}
use Rattle.ld_graph.proofs.graph.Graph.insert.Goals as goal

pub returns-then-contains-clause-inserted : goal.returns-then-contains-clause-inserted
returns-then-contains-clause-inserted g c =
    record {
      there = subst (λ g. IsEdge g.edges c.args.a c.args.b) c.self.view_is
          (IsEdge-found c.self.inside.edges.keys c.args.a c.args.b (sym c.contains.ensures
          ∙ c.if-contains.true));
      same = refl;
    }

pub returns-then-contains-clause-new : goal.returns-then-contains-clause-new
returns-then-contains-clause-new g c = λ fresh.
    absurd (fresh (subst (λ g. IsEdge g.edges c.args.a c.args.b) c.self.view_is
    (IsEdge-found c.self.inside.edges.keys c.args.a c.args.b (sym c.contains.ensures
    ∙ c.if-contains.true))))
