use Rattle.std.proofs.Common.{◌≡◌, ◌<◌, ◌∙◌, ◌++◌, [], ◌∷◌, All, Some, get_or, length, map, ap, sym, subst}
use Rattle.std.proofs.lemmas.List.{map-append, take_all, take_more}
use Rattle.std.proofs.lemmas.List.Elements.{All-push}
use Rattle.ld_class.specs.Names.{IsNameAt, no_class, plain_class}
use Rattle.ld_rules.specs.Dependency.{Dependency}
use Rattle.ld_rules.specs.Union.{dependency_witness, union_classes}
use Rattle.ld_book.specs.OfUnion.declared.dependencies.Witnessed.{Witnessed}
use Rattle.ld_overview.specs.Overview.{IsDependencyRow}
use Rattle.ld_overview.proofs.OverviewLemmas.{named-from_edges}
use Rattle.ld_overview.proofs.overview.named_rows.Goals as goal

abbrev no_dependency : Witnessed
no_dependency = record { edge = record { from = 0; to = 0 }; first = record { number = 0; line = 0 } }

pub loop-dependency-preserved : goal.loop-dependency-preserved
loop-dependency-preserved c =
    let sources = c.args.book.now in
    let rows = c.dependencies-dependencies.result.now in
    let are = c.dependencies-dependencies.ensures in
    let old = c.loop-dependency.rows.items in
    let i = c.loop-dependency.dependency-index in
    let here : i < length rows = c.loop-dependency-test.true in
    let row = get_or rows i no_dependency in
    let within = are.within i no_dependency here in
    let names = c.classes-classes.ensures.all in
    let from : IsNameAt (union_classes sources) row.edge.from (plain_class c.name.result) =
    (within.0, ap (λ all. get_or all row.edge.from no_class) (sym names) ∙ sym c.name.ensures.name) in
    let to : IsNameAt (union_classes sources) row.edge.to (plain_class c.name-in-loop-dependency.result) =
    (within.1, ap (λ all. get_or all row.edge.to no_class) (sym names) ∙ sym c.name-in-loop-dependency.ensures.name) in
    let first : dependency_witness sources (record { from = plain_class c.name.result; to = plain_class c.name-in-loop-dependency.result }) ≡ Some row.first =
    ap (λ (what : Dependency). dependency_witness sources what) (λ t. record { from = sym from.1 t; to = sym to.1 t }) ∙ are.witness i no_dependency here in
    record {
      each = subst (All (IsDependencyRow sources)) (sym c.in_ok-push.ensures.items)
          (All-push (IsDependencyRow sources) old _ c.loop-dependency.invariant.each (record { from = from; to = to; first = first }));
      edges =
          ap (map (λ row. row.edge)) c.in_ok-push.ensures.items ∙ map-append (λ row. row.edge) old _
          ∙ (λ t. c.loop-dependency.invariant.edges t ++ row.edge ∷ [])
          ∙ sym (ap (map (λ row. row.edge)) (take_more rows i no_dependency here) ∙ map-append (λ row. row.edge) _ (row ∷ []));
    }

pub returns : goal.returns
returns c =
    let rows = c.dependencies-dependencies.result.now in
    named-from_edges c.args.book.now rows c.dependencies-dependencies.ensures c.loop-dependency.rows.items c.loop-dependency.invariant.each
    (c.loop-dependency.invariant.edges ∙ ap (map (λ row. row.edge)) (take_all c.loop-dependency.dependency-index rows c.loop-dependency-test.false))
