use Rattle.std.proofs.Common.{◌≡◌, ◌<◌, ◌-◌, ◌∙◌, inl, inr, ap, arith, length, subst, sym}
use Rattle.std.proofs.lemmas.List.{get_or_read}
use Rattle.ld_graph.specs.Inner.Trails.{IsTrail, frame_at, last_of, no_frame, shown, top_of}
use Rattle.ld_graph.proofs.LowerLemmas.{has_parent, returned-is, top_frame}
use Rattle.ld_graph.proofs.KnownLemmas.{told-is}
use Rattle.ld_graph.proofs.trail.Trail.leave.Goals as goal
use Rattle.ld_graph.proofs.trail.Trail.leave.Goals.{Else-top}

pub tell-requires-clause-position : goal.tell-requires-clause-position
tell-requires-clause-position c =
    let f = top_frame c.args.lists.now.after.lists (shown c.args.self.now) c.requires.trail c.requires.some in
    let s = f.starts in omega (arith, s)

pub returns-then-top-clause-trail : goal.returns-then-top-clause-trail
returns-then-top-clause-trail c =
    let t = shown c.args.self.now in
    let whole : (top_of t).low ≡ (top_of t).position = ap (λ f. f.low) (sym c.top-top.ensures) ∙ c.if-top.true ∙ ap (λ f. f.position) c.top-top.ensures in
    subst (IsTrail c.args.lists.now.after.lists) (sym c.tell.ensures.told)
    (told-is c.args.lists.now.after.lists t c.requires.trail c.requires.some c.tell.new.self.stages.items c.requires.done whole c.tell.ensures.stages)

below_top : (c : Else-top) → (top_of (shown c.args.self.now)).low < (top_of (shown c.args.self.now)).position
below_top c =
    let t = shown c.args.self.now in
    let f = top_frame c.args.lists.now.after.lists t c.requires.trail c.requires.some in
    let a = f.falls in
    let low = ap (λ g. g.low) c.top-top.ensures in
    let position = ap (λ g. g.position) c.top-top.ensures in
    omega (arith, a, low, position, c.if-top.false)

two : (c : Else-top) → 1 < length c.args.self.now.path.items
two c = let p = has_parent c.args.lists.now.after.lists (shown c.args.self.now) c.requires.trail c.requires.some (below_top c) in omega (arith, p)

pub overflow_sub-len : goal.overflow_sub-len
overflow_sub-len c = let a = two (goal.at.overflow_sub-len c).Else-top in omega (arith, a, c.len.ensures, c.args.self.now.path.ok.0)

pub turn_back-requires-else-top-before : goal.turn_back-requires-else-top-before
turn_back-requires-else-top-before c = two (goal.at.turn_back-requires-else-top-before c).Else-top

pub returns-then-top-before-clause-trail : goal.returns-then-top-before-clause-trail
returns-then-top-before-clause-trail c =
    let t = shown c.args.self.now in
    let e = (goal.at.returns-then-top-before-clause-trail c).Else-top in
    let a = two e in
    let at : c.len.result - 2 ≡ last_of t - 1 = omega (arith, a, c.len.ensures, c.args.self.now.path.ok.0) in
    let read : frame_at t (last_of t - 1) ≡ c.index.result.now = ap (λ k. frame_at t k) (sym at)
    ∙ sym (get_or_read c.args.self.now.path.items (c.len.result - 2) c.index.result.now (omega (arith, a, at)) c.index.ensures no_frame) in
    let low = ap (λ g. g.low) c.top-top.ensures in
    let before = ap (λ g. g.low) read in
    subst (IsTrail c.args.lists.now.after.lists) (sym c.turn_back.ensures)
    (returned-is c.args.lists.now.after.lists t c.requires.trail c.requires.some c.top-top.result.low c.requires.done (below_top e)
    (omega (arith, low)) (inr low) (omega (arith, before, c.if-top-before.true)))

pub returns-else-top-before-clause-trail : goal.returns-else-top-before-clause-trail
returns-else-top-before-clause-trail c =
    let t = shown c.args.self.now in
    let e = (goal.at.returns-else-top-before-clause-trail c).Else-top in
    let a = two e in
    let at : c.len.result - 2 ≡ last_of t - 1 = omega (arith, a, c.len.ensures, c.args.self.now.path.ok.0) in
    let read : frame_at t (last_of t - 1) ≡ c.index.result.now = ap (λ k. frame_at t k) (sym at)
    ∙ sym (get_or_read c.args.self.now.path.items (c.len.result - 2) c.index.result.now (omega (arith, a, at)) c.index.ensures no_frame) in
    let low = ap (λ g. g.low) c.top-top.ensures in
    let before : (frame_at t (last_of t - 1)).low ≡ c.index.result.now.low = ap (λ g. g.low) read in
    subst (IsTrail c.args.lists.now.after.lists) (sym c.turn_back-else-top-before.ensures)
    (returned-is c.args.lists.now.after.lists t c.requires.trail c.requires.some c.index.result.now.low c.requires.done (below_top e)
    (omega (arith, low, c.if-top-before.false)) (inl (sym before)) (omega (arith, before)))
