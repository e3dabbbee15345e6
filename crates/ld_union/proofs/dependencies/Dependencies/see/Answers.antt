use Rattle.std.proofs.Common.{◌∙◌, ◌≤◌, ap, arith, subst, sym}
use Rattle.std.proofs.lemmas.List.{get_or_read}
use Rattle.ld_graph.specs.Edges.{IsEdgeNumber}
use Rattle.ld_rules.specs.declared.outcome.Witness.{Witness}
use Rattle.ld_rules.specs.Union.{earlier}
use Rattle.ld_union.specs.declared.dependencies.Witnessed.{Witnessed}
use Rattle.ld_batch.proofs.EarlierLemmas.{earlier-lower}
use Rattle.ld_union.proofs.EarlierLemmas.{earlier-left, earlier-right, earlier-set, here-set}
use Rattle.ld_union.proofs.UnionLemmas.{edges-set, found_row, witnessed-set}
use Rattle.ld_union.proofs.dependencies.Dependencies.see.Goals as goal

pub invariant_of-self : goal.invariant_of-self
invariant_of-self c =
    let rows = c.args.self.now.rows.items in
    let e = c.args.edge in
    let known = c.index_mut-known.result.now in
    let at = found_row rows e.from e.to c.args.number (subst (λ edges. IsEdgeNumber edges e.from e.to c.args.number) c.args.self.now.same_edges c.requires) in
    record {
      same_edges = c.args.self.now.same_edges ∙ sym (edges-set rows c.args.number e at.0 at.1 _ (ap (λ (row : Witnessed). row.edge) c.index_mut-known.ensures.value ∙ at.1 known));
      counted = c.args.self.now.counted;
      seen_earlier =
          let was = get_or_read rows c.args.number known at.0 c.index_mut-known.ensures.value in
          earlier-set rows c.args.number (record { edge = known.edge; first = c.earlier-known.result }) at.0
          (ap (λ (row : Witnessed). row.edge) (was _))
          (subst (λ (row : Witnessed). c.earlier-known.result.number ≤ row.first.number) (was _)
          (subst (λ (w : Witness). w.number ≤ known.first.number) (sym c.earlier-known.ensures) (earlier-left known.first c.args.witness)))
          c.args.self.now.earlier c.args.self.now.seen_earlier;
    }

pub returns-then-witness-known-clause-noted : goal.returns-then-witness-known-clause-noted
returns-then-witness-known-clause-noted c classes numbered first witnessed =
    let rows = c.args.self.now.rows.items in
    let e = c.args.edge in
    let known = c.index_mut-known.result.now in
    let at = found_row rows e.from e.to c.args.number (subst (λ edges. IsEdgeNumber edges e.from e.to c.args.number) c.args.self.now.same_edges c.requires) in
    witnessed-set classes rows numbered c.args.number e at.0 at.1 _ (ap (λ (row : Witnessed). row.edge) c.index_mut-known.ensures.value ∙ at.1 known) c.args.witness
    (c.earlier-known.ensures ∙ ap (λ (row : Witnessed). earlier row.first c.args.witness)
    (get_or_read rows c.args.number known at.0 c.index_mut-known.ensures.value _))
    first witnessed

pub returns-else-witness-known-clause-noted : goal.returns-else-witness-known-clause-noted
returns-else-witness-known-clause-noted c classes numbered first witnessed =
    let rows = c.args.self.now.rows.items in
    let e = c.args.edge in
    let known = c.index_mut-known.result.now in
    let at = found_row rows e.from e.to c.args.number (subst (λ edges. IsEdgeNumber edges e.from e.to c.args.number) c.args.self.now.same_edges c.requires) in
    witnessed-set classes rows numbered c.args.number e at.0 at.1 _ (ap (λ (row : Witnessed). row.edge) c.index_mut-known.ensures.value ∙ at.1 known) c.args.witness
    (sym (earlier-lower known.first c.args.witness c.if-witness-known.false) ∙ ap (λ (row : Witnessed). earlier row.first c.args.witness)
    (get_or_read rows c.args.number known at.0 c.index_mut-known.ensures.value _))
    first witnessed

pub returns-then-witness-known-clause-there : goal.returns-then-witness-known-clause-there
returns-then-witness-known-clause-there c n before =
    let rows = c.args.self.now.rows.items in
    let e = c.args.edge in
    let known = c.index_mut-known.result.now in
    let at = found_row rows e.from e.to c.args.number (subst (λ edges. IsEdgeNumber edges e.from e.to c.args.number) c.args.self.now.same_edges c.requires) in
    let earliest = subst (λ (w : Witness). w.number ≤ c.args.witness.number) (sym c.earlier-known.ensures) (earlier-right known.first c.args.witness) in
    here-set rows c.args.number (record { edge = known.edge; first = c.earlier-known.result }) at.0 e n
    (ap (λ (row : Witnessed). row.edge) c.index_mut-known.ensures.value ∙ at.1 known) (omega (arith, earliest, before))

pub returns-else-witness-known-clause-there : goal.returns-else-witness-known-clause-there
returns-else-witness-known-clause-there c n before =
    let rows = c.args.self.now.rows.items in
    let e = c.args.edge in
    let known = c.index_mut-known.result.now in
    let at = found_row rows e.from e.to c.args.number (subst (λ edges. IsEdgeNumber edges e.from e.to c.args.number) c.args.self.now.same_edges c.requires) in
    here-set rows c.args.number known at.0 e n
    (ap (λ (row : Witnessed). row.edge) c.index_mut-known.ensures.value ∙ at.1 known) (omega (arith, c.if-witness-known.false, before))
