use Rattle.std.proofs.Common.{rules, ◌≡◌, ◌<◌, ◌∙◌, None, Some, ap, refl, subst, sym}
use Rattle.ld_class.specs.Names.{plain_class}
use Rattle.ld_graph.specs.Edges.{IsEdge, IsEdgeNumber}
use Rattle.ld_rules.specs.Dependency.{Dependency}
use Rattle.ld_union.specs.declared.dependencies.Witnessed.{Witnessed}
use Rattle.ld_union.proofs.UnionLemmas.{first_at, found_row, none_edge, none_from, none_to}
use Rattle.ld_union.proofs.union.Union.witness.Goals as goal

pub returns-in_err-from : goal.returns-in_err-from
returns-in_err-from c = rw (← c.self.view_is) (λ first witnessed.
    let union = c.self.inside in
    let what : Dependency = record { from = plain_class c.args.from; to = plain_class c.args.to } in
    let none : c.from_residual.result ≡ None = search rules in
    none ∙ sym (none_from union.classes union.dependencies.rows.items c.self.invariant.numbered first witnessed what (sym c.in_err-from.ensures.place)))

pub returns-in_err-to : goal.returns-in_err-to
returns-in_err-to c = rw (← c.self.view_is) (λ first witnessed.
    let union = c.self.inside in
    let what : Dependency = record { from = plain_class c.args.from; to = plain_class c.args.to } in
    let none : c.from_residual-in_err-to.result ≡ None = search rules in
    none ∙ sym (none_to union.classes union.dependencies.rows.items c.self.invariant.numbered first witnessed what (sym c.in_err-to.ensures.place)))

pub returns-in_err-number : goal.returns-in_err-number
returns-in_err-number c = rw (← c.self.view_is) (λ first witnessed.
    let union = c.self.inside in
    let what : Dependency = record { from = plain_class c.args.from; to = plain_class c.args.to } in
    let none : c.from_residual-in_err-number.result ≡ None = search rules in
    let new = subst (λ edges. ¬ IsEdge edges c.in_ok-from.from c.in_ok-to.to) c.self.inside.dependencies.same_edges c.in_err-number.ensures in
    none ∙ sym (none_edge union.classes union.dependencies.rows.items c.self.invariant.numbered first witnessed what c.in_ok-from.from c.in_ok-to.to
    ((c.in_ok-from.ensures.exact c.in_ok-from.from).0 refl) ((c.in_ok-to.ensures.exact c.in_ok-to.to).0 refl) new))

pub index-requires : goal.index-requires
index-requires c =
    let rows = c.self.inside.dependencies.rows in
    let found = subst (λ edges. IsEdgeNumber edges c.in_ok-from.from c.in_ok-to.to c.in_ok-number.number) c.self.inside.dependencies.same_edges c.in_ok-number.ensures in
    subst (λ n. c.in_ok-number.number < n) (sym rows.ok.0) (found_row rows.items c.in_ok-from.from c.in_ok-to.to c.in_ok-number.number found).0

pub returns : goal.returns
returns c = rw (← c.self.view_is) (λ first witnessed.
    let union = c.self.inside in
    let what : Dependency = record { from = plain_class c.args.from; to = plain_class c.args.to } in
    let found = subst (λ edges. IsEdgeNumber edges c.in_ok-from.from c.in_ok-to.to c.in_ok-number.number) c.self.inside.dependencies.same_edges c.in_ok-number.ensures in
    ap (λ (row : Witnessed). Some row.first) c.index.ensures
    ∙ first_at union.classes union.dependencies.rows.items c.self.invariant.numbered first witnessed what c.in_ok-from.from c.in_ok-to.to
    c.in_ok-number.number c.index.result.now ((c.in_ok-from.ensures.exact c.in_ok-from.from).0 refl) ((c.in_ok-to.ensures.exact c.in_ok-to.to).0 refl) found)
