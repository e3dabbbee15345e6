use Rattle.std.proofs.Common.{◌∙◌, Contains, arith, subst, sym}
use Rattle.ld_graph.specs.Edges.{IsEdge}
use Rattle.ld_graph.specs.Walks.{Reaches}
use Rattle.ld_union.specs.Inner.Rows.{AreWithBit}
use Rattle.ld_union.proofs.findings.forbidden.leading_to_held.Goals as goal

pub new-requires-clause-ends : goal.new-requires-clause-ends
new-requires-clause-ends c = λ e m.
    let low = ((c.in_ok-ends.ensures.each e).0 (subst (λ ns. Contains ns e) c.deref.ensures.value m)).0 in
    omega (arith, low, c.graph.ensures.classes)

pub returns : goal.returns
returns c =
    let union = c.args.indexed.union.now in
    let with = subst (λ b. AreWithBit union b c.in_ok-ends.ends.items) c.on_bit.ensures c.in_ok-ends.ensures in
    let leading = c.in_ok-leading.ensures.leading in
    record {
      numbered = c.graph.ensures.numbered;
      in_order = c.in_ok-leading.ensures.places ∙ c.deref-3.ensures.value;
      size = c.in_ok-leading.ensures.size ∙ c.graph.ensures.classes;
      real = λ x y m. subst (λ es. IsEdge es x y) c.graph.ensures.edges (leading.real x y m);
      leads = λ e low bit x y edge reaches. leading.leads x y e (subst (λ ns. Contains ns e) (sym c.deref.ensures.value) ((with.each e).1 (low, bit)))
          (subst (λ es. IsEdge es x y) (sym c.graph.ensures.edges) edge) (subst (λ es. Reaches (IsEdge es) y e) (sym c.graph.ensures.edges) reaches);
    }
