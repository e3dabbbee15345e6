use Rattle.std.proofs.Common.{None, get_or, ◌≡◌, ◌<◌, ◌∙◌, All, MatchOption, length, map, subst, sym, ap}
use Rattle.ld_graph.specs.Edges.{ComesBefore, IsEdge}
use Rattle.ld_graph.specs.Walks.{AreEnough, HasWalk, IsShownWalk}
use Rattle.ld_union.specs.Findings.{IsShown}
use Rattle.ld_union.specs.Inner.ByName.{class_name}
use Rattle.ld_union.specs.Inner.Union.{edges_of}
use Rattle.ld_union.proofs.ShownLemmas.{shown_named, shown_within}
use Rattle.ld_union.proofs.findings.walks.walk_names.Goals as goal

pub new-requires : goal.new-requires
new-requires c =
    let union = c.args.indexed.union.now in
    let told = subst (λ edges. MatchOption c.in_ok-walk.walk (¬ HasWalk (IsEdge edges) c.args.from c.args.to)
    (λ w. IsShownWalk (IsEdge edges) (ComesBefore c.deref.result.now) c.args.from c.args.to w.items)) c.graph.ensures.edges c.in_ok-walk.ensures in
    let shown = subst (λ walk. MatchOption walk (¬ HasWalk (IsEdge (edges_of union.dependencies)) c.args.from c.args.to)
    (λ w. IsShownWalk (IsEdge (edges_of union.dependencies)) (ComesBefore c.deref.result.now) c.args.from c.args.to w.items)) c.in-Some.is told in
    subst (λ names. All (λ k. k < length names) c.in-Some.numbers.items) (sym c.classes.ensures.same)
    (shown_within union.classes union.dependencies c.graph.ensures.numbered c.deref.result.now c.args.from c.args.to
    c.in-Some.numbers.items c.requires.from c.requires.to shown)

pub returns : goal.returns
returns c sources shows =
    let union = c.args.indexed.union.now in
    let order = c.args.indexed.order.now in
    let told = subst (λ edges. MatchOption c.in_ok-walk.walk (¬ HasWalk (IsEdge edges) c.args.from c.args.to)
    (λ w. IsShownWalk (IsEdge edges) (ComesBefore c.deref.result.now) c.args.from c.args.to w.items)) c.graph.ensures.edges c.in_ok-walk.ensures in
    let shown = subst (λ walk. MatchOption walk (¬ HasWalk (IsEdge (edges_of union.dependencies)) c.args.from c.args.to)
    (λ w. IsShownWalk (IsEdge (edges_of union.dependencies)) (ComesBefore c.deref.result.now) c.args.from c.args.to w.items)) c.in-Some.is told in
    let placed = subst (λ places. IsShownWalk (IsEdge (edges_of union.dependencies)) (ComesBefore places) c.args.from c.args.to c.in-Some.numbers.items) c.deref.ensures.value shown in
    let names : c.new.result ≡ map (class_name union.classes) c.in-Some.numbers.items = c.new.ensures ∙
    ap (λ classes. map (class_name classes) c.in-Some.numbers.items) c.classes.ensures.same in
    subst (IsShown sources (class_name union.classes c.args.from) (class_name union.classes c.args.to)) (sym names)
    (shown_named union.classes union.dependencies shows.numbered sources shows.witnesses order.numbers.items order.places.items
    c.args.indexed.named c.args.from c.args.to c.in-Some.numbers.items c.requires.from c.requires.to placed)

pub walk_along-requires-clause-enough : goal.walk_along-requires-clause-enough
walk_along-requires-clause-enough c =
    subst (λ es. AreEnough (IsEdge es) c.args.from c.args.to (λ x. get_or c.args.distances.now x None)) (sym c.graph.ensures.edges) c.requires.distances.enough
