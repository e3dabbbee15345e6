use Rattle.std.proofs.Common.{◌≡◌, ◌++◌, ◌∷◌, [], arith, false, true, inl, inr, subst, sym, ap, ◌∙◌, unwrap_or, get_or, None, length}
use Rattle.std.proofs.lemmas.List.{take_all}
use Rattle.std.proofs.lemmas.List.Elements.{Contains-push}
use Rattle.ld_graph.specs.Edges.{IsEdge, edge}
use Rattle.ld_graph.specs.Inner.KeptReach.{IsSpread, none_ahead, reach_of}
use Rattle.ld_graph.specs.Lists.{IsNear}
use Rattle.ld_graph.specs.Reach.{IsReach, IsSource, PlainReach}
use Rattle.ld_graph.proofs.ReachLemmas.{IsGiven-front, IsSource-along, marks_len, spread-edge, spread-given, spread-longer, spread-reach, spread-unmarked}
use Rattle.ld_graph.proofs.reach.Reach.along.Goals as goal

pub returns-then-not-is_on-clause-exact : goal.returns-then-not-is_on-clause-exact
returns-then-not-is_on-clause-exact c = λ before seeds there exact.
    let old : PlainReach = reach_of c.self.inside in
    let was : IsReach (IsEdge before) seeds old = subst (IsReach (IsEdge before) seeds) (sym c.self.view_is) exact in
    let off : get_or old.marks c.args.a false ≡ false = sym c.is_on.ensures ∙ c.if-not-is_on.true in
    subst (IsReach (IsEdge (before ++ edge c.args.a c.args.b ∷ [])) seeds) c.self.view_is
    (spread-reach (IsEdge (before ++ edge c.args.a c.args.b ∷ [])) seeds old.sources old.marks old.reached c.count-known.ensures.listed
    (spread-unmarked before seeds old c.args.a c.args.b off c.count-known.ensures.listed was) old.spare old.expanded)

pub spread-requires-clause-ends : goal.spread-requires-clause-ends
spread-requires-clause-ends c = λ x y h.
    let e = c.requires.ends x y h in omega (arith, e, marks_len c.self.inside c.args.self.now c.self.view_is)

pub returns-clause-exact : goal.returns-clause-exact
returns-clause-exact c = λ before seeds near_is exact.
    let step = IsEdge (before ++ edge c.args.a c.args.b ∷ []) in
    let near = IsNear c.args.reader.now.lists.after.lists in
    let old : PlainReach = reach_of c.self.inside in
    let kept = marks_len c.self.inside c.args.self.now c.self.view_is in
    let was : IsReach (IsEdge before) seeds old = subst (IsReach (IsEdge before) seeds) (sym c.self.view_is) exact in
    let first : IsSpread step seeds (λ x y. (x ≡ c.args.a) × (y ≡ c.args.b)) old.sources old.marks old.reached c.count-known.result =
    subst (IsSpread step seeds (λ x y. (x ≡ c.args.a) × (y ≡ c.args.b)) old.sources old.marks old.reached) (sym c.count-known.ensures.count)
    (spread-edge before seeds old c.args.a c.args.b c.count-known.ensures.listed was) in
    let there : step c.args.a c.args.b = Contains-push before (edge c.args.a c.args.b) in
    let on : get_or old.marks c.args.a false ≡ true = sym c.is_on.ensures ∙ c.if-not-is_on.false in
    let from : unwrap_or (get_or old.sources c.args.a None) c.args.a ≡ c.unwrap_or-from.result =
    ap (λ o. unwrap_or o c.args.a) (sym c.source.ensures) ∙ sym c.unwrap_or-from.ensures in
    let source = IsSource-along step seeds (λ x y. (x ≡ c.args.a) × (y ≡ c.args.b)) old.sources old.marks old.reached c.count-known.result c.args.a c.args.b first on there in
    let more = c.give.new.self in
    let given = spread-given step seeds (λ x y. (x ≡ c.args.a) × (y ≡ c.args.b)) none_ahead c.args.b c.unwrap_or-from.result
    old.sources old.marks old.reached c.count-known.result more.each more.reached (omega (arith, c.count-known.ensures.count)) first (subst (IsSource step seeds c.args.b) from source)
    (omega (arith, c.requires.to, kept, c.self.invariant.same)) (λ x y h. inr h.1) c.give.ensures.given in
    let ended = c.spread.ensures.spread seeds
    (spread-longer step near seeds none_ahead none_ahead more.each old.marks more.reached c.count-known.result
    (λ x y h. (near_is x y).1 h) (λ x y on h. inl ((near_is x y).0 h)) (λ x y h. h) given) in
    let new = c.spread.new.sources in
    let done = spread-longer near step seeds none_ahead none_ahead new.each c.spread.new.marks.each new.reached (length new.reached)
    (λ x y h. (near_is x y).0 h) (λ x y on h. inl ((near_is x y).1 h)) (λ x y h. h) ended in
    spread-reach step seeds new.each c.spread.new.marks.each new.reached c.spread.ensures.listed done c.self.inside.spare c.spread.new.marks.count

pub returns-clause-front : goal.returns-clause-front
returns-clause-front c =
    let old = c.self.inside.sources in
    let new = c.give.new.self in
    let given = IsGiven-front c.args.b c.unwrap_or-from.result old.each old.reached new.each new.reached (length old.reached) (omega arith) c.give.ensures.given in
    rw (← c.self.view_is) (c.spread.ensures.expanded.front (length old.reached) given.1 ∙ given.0 ∙ take_all (length old.reached) old.reached (omega arith))
