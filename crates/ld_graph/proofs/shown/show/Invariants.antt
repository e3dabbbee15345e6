use Rattle.std.proofs.Common.{◌≡◌, Some, ◌+◌, ◌<◌, ◌≤◌, ℕ, List, ◌++◌, length, vec_len, vec_capacity}
use Rattle.ld_graph.specs.Edges.{ComesBefore}
use Rattle.ld_graph.specs.Lists.{IsNear}
use Rattle.ld_graph.specs.Inner.Levels.{level_at}
use Rattle.ld_graph.specs.Walks.{Reaches, IsDistance, ShownFrom, IsShownWalk}
use Rattle.ld_graph.proofs.shown.show.Given as goal

abbrev pub invariant-loop-left : goal.invariant-loop-left
invariant-loop-left l = record {
  within : l.last < length l.lists.after.lists;
  some : 1 ≤ l.left;
  few : l.left ≤ l.distance;
  reached : Reaches (IsNear l.lists.after.lists) l.a l.last;
  distance : IsDistance (IsNear l.lists.after.lists) l.last l.b l.left;
  level : level_at l.levels l.last ≡ Some l.left;
  shown : (rest : List ℕ) → ShownFrom (IsNear l.lists.after.lists) (ComesBefore l.places) l.last l.b rest
      → IsShownWalk (IsNear l.lists.after.lists) (ComesBefore l.places) l.a l.b (l.walk.items ++ rest);
  room : vec_len l.walk + l.left ≤ vec_capacity l.walk;
}

abbrev pub decreases-loop-left : goal.decreases-loop-left
decreases-loop-left l = l.left
