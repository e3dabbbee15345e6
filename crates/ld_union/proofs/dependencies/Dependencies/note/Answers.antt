use Rattle.std.proofs.Common.{◌≡◌, ◌++◌, ◌∷◌, [], ◌<◌, ◌∙◌, refl, ap, subst, sym}
use Rattle.std.proofs.lemmas.List.{map-append}
use Rattle.ld_graph.specs.Edges.{IsEdge, PlainGraph, with_edge}
use Rattle.ld_union.specs.declared.dependencies.Witnessed.{Witnessed}
use Rattle.ld_union.specs.Inner.Union.{IsCycleEdge, edges_of}
use Rattle.ld_union.proofs.UnionLemmas.{numbered-pushed, witnessed-pushed}
use Rattle.ld_union.proofs.dependencies.Dependencies.note.Goals as goal

pub returns-in-Known-clause-noted : goal.returns-in-Known-clause-noted
returns-in-Known-clause-noted c classes count numbered first witnessed = c.see.ensures.noted classes numbered first witnessed

pub returns-clause-numbered : goal.returns-clause-numbered
returns-clause-numbered c classes count numbered =
    let e = c.args.edge in
    let new : ¬ IsEdge (edges_of c.args.self.now.rows.items) e.from e.to = subst (λ edges. ¬ IsEdge edges e.from e.to) c.args.self.now.same_edges (λ there. c.in_default.not-Known (c.insert_full-place.ensures.there.1 there)) in
    rw c.push_reserved.ensures.items
    (numbered-pushed classes c.args.self.now.rows.items numbered e (subst (λ n. e.from < n) (sym count) c.requires.from, subst (λ n. e.to < n) (sym count) c.requires.to) new _ refl)

pub returns-clause-noted : goal.returns-clause-noted
returns-clause-noted c classes count numbered first witnessed =
    let e = c.args.edge in
    let new : ¬ IsEdge (edges_of c.args.self.now.rows.items) e.from e.to = subst (λ edges. ¬ IsEdge edges e.from e.to) c.args.self.now.same_edges (λ there. c.in_default.not-Known (c.insert_full-place.ensures.there.1 there)) in
    rw c.push_reserved.ensures.items
    (witnessed-pushed classes c.args.self.now.rows.items numbered e (subst (λ n. e.from < n) (sym count) c.requires.from, subst (λ n. e.to < n) (sym count) c.requires.to) new _ refl first witnessed)

pub returns-clause-closing : goal.returns-clause-closing
returns-clause-closing c was =
    let graph = c.insert_full-place.new.self in
    let inserted : graph ≡ with_edge c.args.self.now.graph c.args.edge.from c.args.edge.to graph.order = c.insert_full-place.ensures.new c.in_default.not-Known in
    let same : edges_of c.push_reserved.new.self.items ≡ graph.edges =
    ap edges_of c.push_reserved.ensures.items ∙ map-append (λ (row : Witnessed). row.edge) c.args.self.now.rows.items _
    ∙ ap (λ edges. edges ++ c.args.edge ∷ []) (sym c.args.self.now.same_edges) ∙ sym (ap (λ (g : PlainGraph). g.edges) inserted) in
    subst (λ edges. IsCycleEdge edges c.closing_then-self.result) (sym same)
    (c.closing_then-self.ensures c.args.self.now.graph graph (c.insert_full-place.ensures.inserted c.in_default.not-Known) (subst (λ edges. IsCycleEdge edges c.args.self.now.closing) (sym c.args.self.now.same_edges) was))
