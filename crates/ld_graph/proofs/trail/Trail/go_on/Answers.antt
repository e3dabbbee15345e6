use Rattle.std.proofs.Common.{◌≡◌, ◌<◌, ◌≤◌, ◌∙◌, ℕ, ap, arith, refl, subst, sym, get_or}
use Rattle.std.proofs.lemmas.List.{get_or_read}
use Rattle.ld_graph.specs.declared.trail.Stage.TheVariants.{Fresh, Open}
use Rattle.ld_graph.specs.Lists.{list_at}
use Rattle.ld_graph.specs.Inner.Trails.{IsTrail, advanced, shown, stage_at, work}
use Rattle.ld_graph.proofs.StepLemmas.{class_within, enter_less, enter_trail, known_trail, look_less, nexts_within, to_within, waits_trail}
use Rattle.ld_graph.proofs.TrailLemmas.{same_place}
use Rattle.ld_graph.proofs.trail.Trail.go_on.Goals as goal
use Rattle.ld_graph.proofs.trail.Trail.go_on.Goals.{in_default-via-in-Open+else-position-top, in_default-via-in_default, After-index-next, After-index}

pub after-near-requires-clause-class : goal.after-near-requires-clause-class
after-near-requires-clause-class c = rw c.new.ensures.lists
    (class_within _ _ c.requires.trail c.requires.some c.requires.ends _ c.top-top.ensures _ refl 0)

pub index-next-requires : goal.index-next-requires
index-next-requires c =
    let w = nexts_within _ _ c.requires.trail c.requires.some c.requires.ends _ c.top-top.ensures _ (c.after-near.ensures.near ∙ ap (λ l. list_at l.after.lists c.top-top.result.class) c.new.ensures.lists) 0 in
    omega (arith, w, c.args.self.now.nexts.ok.0)

-- how many successors were looked at
seen : (c : After-index-next) → get_or c.args.self.now.nexts.items c.top-top.result.class 0 ≡ c.index-next.result.now
seen c =
    let w = nexts_within _ _ c.requires.trail c.requires.some c.requires.ends _ c.top-top.ensures _ (c.after-near.ensures.near ∙ ap (λ l. list_at l.after.lists c.top-top.result.class) c.new.ensures.lists) 0 in
    sym (get_or_read c.args.self.now.nexts.items c.top-top.result.class c.index-next.result.now w c.index-next.ensures 0)

pub index-requires : goal.index-requires
index-requires c =
    let w = to_within _ _ c.requires.trail c.requires.some c.requires.ends _ c.top-top.ensures _ (c.after-near.ensures.near ∙ ap (λ l. list_at l.after.lists c.top-top.result.class) c.new.ensures.lists) c.index-next.result.now (seen (goal.at.index-requires c).After-index-next) (omega (arith, c.if-next-near.false)) in
    omega (arith, w, c.args.self.now.stages.ok.0)

pub enter-requires : goal.enter-requires
enter-requires c =
    to_within _ _ c.requires.trail c.requires.some c.requires.ends _ c.top-top.ensures _ (c.after-near.ensures.near ∙ ap (λ l. list_at l.after.lists c.top-top.result.class) c.new.ensures.lists) c.index-next.result.now (seen (goal.at.enter-requires c).After-index-next) (omega (arith, c.if-next-near.false))

-- how far the successor has come
stage_is : (c : After-index) → stage_at (shown c.args.self.now) (get_or c.after-near.result.now c.index-next.result.now 0) ≡ c.index.result.now
stage_is c =
    let w = to_within _ _ c.requires.trail c.requires.some c.requires.ends _ c.top-top.ensures _ (c.after-near.ensures.near ∙ ap (λ l. list_at l.after.lists c.top-top.result.class) c.new.ensures.lists) c.index-next.result.now (seen (goal.at.After-index c).After-index-next) (omega (arith, c.if-next-near.false)) in
    sym (get_or_read c.args.self.now.stages.items (get_or c.after-near.result.now c.index-next.result.now 0) c.index.result.now w c.index.ensures Fresh)

-- the successor waits, further back than is known
pub returns-in-Open-clause-trail : goal.returns-in-Open-clause-trail
returns-in-Open-clause-trail c =
    subst (IsTrail c.args.lists.now.after.lists) (sym c.advance.ensures)
    (waits_trail _ _ c.requires.trail c.requires.some c.requires.ends _ c.top-top.ensures _ (c.after-near.ensures.near ∙ ap (λ l. list_at l.after.lists c.top-top.result.class) c.new.ensures.lists) c.index-next.result.now (seen (goal.at.returns-in-Open-clause-trail c).After-index-next) (omega (arith, c.if-next-near.false))
    c.in-Open.position (stage_is (goal.at.returns-in-Open-clause-trail c).After-index ∙ c.in-Open.is) c.if-position-top.true)

pub returns-in-Open-clause-less : goal.returns-in-Open-clause-less
returns-in-Open-clause-less c =
    subst (λ t. work c.args.lists.now.after.lists t < work c.args.lists.now.after.lists (shown c.args.self.now)) (sym c.advance.ensures)
    (look_less _ _ c.requires.trail c.requires.some c.requires.ends _ c.top-top.ensures _ (c.after-near.ensures.near ∙ ap (λ l. list_at l.after.lists c.top-top.result.class) c.new.ensures.lists) c.index-next.result.now (seen (goal.at.returns-in-Open-clause-less c).After-index-next) (omega (arith, c.if-next-near.false))
    c.in-Open.position)

pub returns-in_default-clause-trail : goal.returns-in_default-clause-trail
returns-in_default-clause-trail c =
    let e = stage_is (goal.at.returns-in_default-clause-trail c).After-index in
    let met : stage_at (shown c.args.self.now) (get_or c.after-near.result.now c.index-next.result.now 0) ≡ Fresh → ⊥ = λ f. elim c.in_default.branch [
      | in_default-via-in-Open+else-position-top w ↦ let g = w.in-Open.is in cc
      | in_default-via-in_default w ↦ w.in_default.not-Fresh (sym e ∙ f)
    ] in
    let behind : (i : ℕ) → stage_at (shown c.args.self.now) (get_or c.after-near.result.now c.index-next.result.now 0) ≡ Open i → c.top-top.result.low ≤ i = λ i f. elim c.in_default.branch [
      | in_default-via-in-Open+else-position-top w ↦ let p = same_place i w.in-Open.position (sym f ∙ e ∙ w.in-Open.is) in omega (arith, p, w.if-position-top.false)
      | in_default-via-in_default w ↦ absurd (w.in_default.not-Open i (sym e ∙ f))
    ] in
    let same : c.in_default.self ≡ c.args.self.now = elim c.in_default.branch [
      | in_default-via-in-Open+else-position-top w ↦ w.self-is
      | in_default-via-in_default w ↦ w.self-is
    ] in
    subst (IsTrail c.args.lists.now.after.lists) (ap (λ s. advanced (shown s) c.top-top.result.low) (sym same) ∙ sym c.advance-in_default.ensures)
    (known_trail _ _ c.requires.trail c.requires.some c.requires.ends _ c.top-top.ensures _ (c.after-near.ensures.near ∙ ap (λ l. list_at l.after.lists c.top-top.result.class) c.new.ensures.lists) c.index-next.result.now (seen (goal.at.returns-in_default-clause-trail c).After-index-next) (omega (arith, c.if-next-near.false))
    met behind)

pub returns-in_default-clause-less : goal.returns-in_default-clause-less
returns-in_default-clause-less c =
    let same : c.in_default.self ≡ c.args.self.now = elim c.in_default.branch [
      | in_default-via-in-Open+else-position-top w ↦ w.self-is
      | in_default-via-in_default w ↦ w.self-is
    ] in
    subst (λ t. work c.args.lists.now.after.lists t < work c.args.lists.now.after.lists (shown c.args.self.now))
    (ap (λ s. advanced (shown s) c.top-top.result.low) (sym same) ∙ sym c.advance-in_default.ensures)
    (look_less _ _ c.requires.trail c.requires.some c.requires.ends _ c.top-top.ensures _ (c.after-near.ensures.near ∙ ap (λ l. list_at l.after.lists c.top-top.result.class) c.new.ensures.lists) c.index-next.result.now (seen (goal.at.returns-in_default-clause-less c).After-index-next) (omega (arith, c.if-next-near.false))
    c.top-top.result.low)

-- a class is met
pub returns-in_ok-enter-in-Fresh-clause-trail : goal.returns-in_ok-enter-in-Fresh-clause-trail
returns-in_ok-enter-in-Fresh-clause-trail c =
    subst (IsTrail c.args.lists.now.after.lists) (sym c.in_ok-enter-in-Fresh.ensures)
    (enter_trail _ _ c.requires.trail c.requires.some c.requires.ends _ c.top-top.ensures _ (c.after-near.ensures.near ∙ ap (λ l. list_at l.after.lists c.top-top.result.class) c.new.ensures.lists) c.index-next.result.now (seen (goal.at.returns-in_ok-enter-in-Fresh-clause-trail c).After-index-next) (omega (arith, c.if-next-near.false))
    (stage_is (goal.at.returns-in_ok-enter-in-Fresh-clause-trail c).After-index ∙ c.in-Fresh.is))

pub returns-in_ok-enter-in-Fresh-clause-less : goal.returns-in_ok-enter-in-Fresh-clause-less
returns-in_ok-enter-in-Fresh-clause-less c =
    subst (λ t. work c.args.lists.now.after.lists t < work c.args.lists.now.after.lists (shown c.args.self.now)) (sym c.in_ok-enter-in-Fresh.ensures)
    (enter_less c.args.lists.now.after.lists (shown c.args.self.now) (get_or c.after-near.result.now c.index-next.result.now 0)
    (to_within _ _ c.requires.trail c.requires.some c.requires.ends _ c.top-top.ensures _ (c.after-near.ensures.near ∙ ap (λ l. list_at l.after.lists c.top-top.result.class) c.new.ensures.lists) c.index-next.result.now (seen (goal.at.returns-in_ok-enter-in-Fresh-clause-less c).After-index-next) (omega (arith, c.if-next-near.false)))
    (stage_is (goal.at.returns-in_ok-enter-in-Fresh-clause-less c).After-index ∙ c.in-Fresh.is))
