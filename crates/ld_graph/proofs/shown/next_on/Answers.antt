use Rattle.std.proofs.Common.{◌≡◌, ◌<◌, ◌∙◌, ℕ, Contains, ap, arith, length, subst}
use Rattle.ld_graph.specs.Inner.Levels.{IsLeastAtLevel}
use Rattle.ld_graph.specs.Lists.{Sides, list_at}
use Rattle.ld_graph.proofs.shown.next_on.Goals as goal
use Rattle.ld_graph.proofs.shown.next_on.Goals.{After-after}

near_is : (c : After-after) → c.after.result.now ≡ list_at c.args.lists.now.after.lists c.args.class
near_is c = c.after.ensures.near ∙ ap (λ (l : Sides). list_at l.after.lists c.args.class) c.new.ensures.lists

low_at : (c : After-after) → (x : ℕ) → Contains c.after.result.now x → x < length c.args.lists.now.after.lists
low_at c x h = c.requires.ends c.args.class x (subst (λ n. Contains n x) (near_is c) h)

pub nearest-requires-clause-levels : goal.nearest-requires-clause-levels
nearest-requires-clause-levels c = λ x h.
    let e = low_at (goal.at.nearest-requires-clause-levels c).After-after x h in omega (arith, e, c.requires.levels)

pub nearest-requires-clause-places : goal.nearest-requires-clause-places
nearest-requires-clause-places c = λ x h.
    let e = low_at (goal.at.nearest-requires-clause-places c).After-after x h in omega (arith, e, c.requires.places)

pub returns : goal.returns
returns c = subst (λ n. IsLeastAtLevel (Contains n) c.args.level c.args.levels.now c.args.places.now c.in-Some.next)
    (near_is (goal.at.returns c).After-after) c.in-Some.ensures
