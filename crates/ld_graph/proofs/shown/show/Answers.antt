use Rattle.std.proofs.Common.{◌≡◌, ◌<◌, ◌-◌, ℕ, Some, arith}
use Rattle.ld_graph.specs.Inner.Levels.{IsLeastAtLevel, level_at}
use Rattle.ld_graph.specs.Lists.{IsNear}
use Rattle.ld_graph.specs.Walks.{IsDistance}
use Rattle.ld_graph.proofs.SoughtLemmas.{IsOrReaches-next}
use Rattle.ld_graph.proofs.ShownLemmas.{next_there, next_distance, next_shown}
use Rattle.ld_graph.proofs.shown.show.Goals as goal
use Rattle.ld_graph.proofs.shown.show.Goals.{At-loop-left}

-- what a successor's level says
right_at : (c : At-loop-left) → (x : ℕ) → IsNear c.args.lists.now.after.lists c.loop-left.last x → level_at c.args.levels.now x ≡ Some (c.loop-left.left - 1)
    → IsDistance (IsNear c.args.lists.now.after.lists) x c.args.b (c.loop-left.left - 1)
right_at c x n e = c.requires.distances.right x (c.loop-left.left - 1)
    (IsOrReaches-next (IsNear c.args.lists.now.after.lists) c.args.a c.loop-left.last x c.loop-left.invariant.reached n) e

known_at : (c : At-loop-left) → 1 < c.loop-left.left → (x : ℕ) → IsNear c.args.lists.now.after.lists c.loop-left.last x
    → IsDistance (IsNear c.args.lists.now.after.lists) x c.args.b (c.loop-left.left - 1) → level_at c.args.levels.now x ≡ Some (c.loop-left.left - 1)
known_at c more x n d = c.requires.distances.nearer x (c.loop-left.left - 1) c.args.distance
    (IsOrReaches-next (IsNear c.args.lists.now.after.lists) c.args.a c.loop-left.last x c.loop-left.invariant.reached n) d c.requires.distance
    (omega (arith, more, c.loop-left.invariant.few))

pub next_on-next-requires-clause-some : goal.next_on-next-requires-clause-some
next_on-next-requires-clause-some c =
    let l = (goal.at.next_on-next-requires-clause-some c).At-loop-left in
    next_there c.args.lists.now.after.lists c.args.places.now c.args.levels.now c.args.b
    c.loop-left.last c.loop-left.left c.loop-left-test.true (known_at l c.loop-left-test.true) (right_at l)
    c.loop-left.invariant.distance

pub loop-left-preserved : goal.loop-left-preserved
loop-left-preserved c =
    let l = (goal.at.loop-left-preserved c).At-loop-left in
    let last = c.next_on-next.result in
    let least : IsLeastAtLevel (IsNear c.args.lists.now.after.lists c.loop-left.last) (c.loop-left.left - 1)
    c.args.levels.now c.args.places.now last = c.next_on-next.ensures in
    record {
      within = c.requires.ends c.loop-left.last last least.is_near;
      some = omega arith;
      few = omega (arith, c.loop-left.invariant.few);
      reached = IsOrReaches-next (IsNear c.args.lists.now.after.lists) c.args.a c.loop-left.last last c.loop-left.invariant.reached least.is_near;
      distance = next_distance c.args.lists.now.after.lists c.args.places.now c.args.levels.now c.args.b
          c.loop-left.last c.loop-left.left c.loop-left-test.true (known_at l c.loop-left-test.true) (right_at l)
          c.loop-left.invariant.distance last least;
      level = least.has_level;
      shown = rw c.push_reserved-in-loop-left.ensures.items
          (next_shown c.args.lists.now.after.lists c.args.places.now c.args.levels.now c.args.b
          c.loop-left.last c.loop-left.left c.loop-left-test.true (known_at l c.loop-left-test.true) (right_at l)
          c.loop-left.invariant.distance last least c.args.a c.loop-left.walk.items
          c.loop-left.invariant.shown);
      room = omega (arith, c.loop-left.invariant.room, c.push_reserved-in-loop-left.ensures.len, c.push_reserved-in-loop-left.ensures.capacity);
    }
