use Rattle.std.proofs.Common.{◌++◌, ◌∷◌, [], arith, inl, length, subst, sym, ◌∙◌, set, true, refl}
use Rattle.std.proofs.lemmas.List.Elements.{Contains-push}
use Rattle.ld_graph.specs.Edges.{IsEdge}
use Rattle.ld_graph.specs.Inner.KeptReach.{IsSpread, all_ahead, none_ahead, reach_of}
use Rattle.ld_graph.specs.Lists.{IsNear}
use Rattle.ld_graph.specs.Reach.{IsReach, PlainReach}
use Rattle.ld_graph.proofs.ReachLemmas.{marks_len, reach-spread, spread-longer, spread-reach, spread-seeded, spread-seeded_again}
use Rattle.ld_graph.proofs.reach.Reach.seed.Goals as goal

pub returns-then-is_on-clause-exact : goal.returns-then-is_on-clause-exact
returns-then-is_on-clause-exact c = λ edges seeds there exact.
    let step = IsEdge edges in
    let old : PlainReach = reach_of c.self.inside in
    let was : IsReach step seeds old = subst (IsReach step seeds) (sym c.self.view_is) exact in
    subst (IsReach step (seeds ++ c.args.c ∷ [])) c.self.view_is
    (spread-reach step (seeds ++ c.args.c ∷ []) old.sources old.marks old.reached c.count-known.ensures.listed
    (spread-seeded_again step seeds c.args.c old.sources old.marks old.reached (length old.reached) (sym c.is_on.ensures ∙ c.if-is_on.true)
    (reach-spread step seeds old c.count-known.ensures.listed was)) old.spare old.expanded)

pub expand-requires-clause-ends : goal.expand-requires-clause-ends
expand-requires-clause-ends c = λ x y h.
    let e = c.requires.ends x y h in omega (arith, e, marks_len c.self.inside c.args.self.now c.self.view_is)

pub spread-requires-clause-ends : goal.spread-requires-clause-ends
spread-requires-clause-ends c = rw (c.expand.ensures.expanded.lists) (λ x y h.
    let e = c.requires.ends x y h in
    omega (arith, e, c.expand.ensures.expanded.len_marks, marks_len c.self.inside c.args.self.now c.self.view_is))

pub returns-clause-exact : goal.returns-clause-exact
returns-clause-exact c = λ edges seeds there exact.
    let step = IsEdge edges in
    let near = IsNear c.args.reader.now.lists.after.lists in
    let all = seeds ++ c.args.c ∷ [] in
    let old : PlainReach = reach_of c.self.inside in
    let kept = marks_len c.self.inside c.args.self.now c.self.view_is in
    let was : IsReach step seeds old = subst (IsReach step seeds) (sym c.self.view_is) exact in
    let listed = c.count-known.ensures.listed in
    let first = spread-longer step near seeds none_ahead none_ahead old.sources old.marks old.reached (length old.reached)
    (λ x y h. (there x y).1 h) (λ x y on h. inl ((there x y).0 h)) (λ x y h. h) (reach-spread step seeds old listed was) in
    let seeded = subst (IsSpread near all (all_ahead near c.args.c) old.sources (set old.marks c.args.c true) old.reached) (sym c.count-known.ensures.count)
    (spread-seeded near seeds c.args.c old.sources old.marks old.reached (length old.reached) (omega (arith, c.requires.class, kept)) first) in
    let expanded = c.expand.ensures.spread c.count-known.result all (omega (arith, c.count-known.ensures.count)) seeded (Contains-push seeds c.args.c, inl refl) in
    let ended = c.spread.ensures.spread all (rw (c.expand.ensures.expanded.lists) expanded) in
    let new = c.spread.new.sources in
    let done = spread-longer near step all none_ahead none_ahead new.each c.spread.new.marks.each new.reached (length new.reached)
    (λ x y h. (there x y).0 h) (λ x y on h. inl ((there x y).1 h)) (λ x y h. h) (subst (λ l. IsSpread (IsNear l.after.lists) all none_ahead
    new.each c.spread.new.marks.each new.reached (length new.reached)) c.expand.ensures.expanded.lists ended) in
    spread-reach step all new.each c.spread.new.marks.each new.reached c.spread.ensures.listed done c.self.inside.spare c.spread.new.marks.count
