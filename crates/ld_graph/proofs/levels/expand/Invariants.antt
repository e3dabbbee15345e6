use Rattle.std.proofs.Common.{◌≡◌, ◌+◌, ◌<◌, ◌≤◌, ℕ, count_by, get_or, is_none, vec_len}
use Rattle.std.proofs.Common.{vec_capacity}
use Rattle.ld_graph.specs.Inner.Insides.{IsInsideOf, StaysIn}
use Rattle.ld_graph.specs.Inner.Levels.{HasLevel, Spreads}
use Rattle.ld_graph.proofs.levels.expand.Given as goal

abbrev pub invariant-loop-x : goal.invariant-loop-x
invariant-loop-x l = record {
  count : vec_len l.queue + count_by is_none l.levels ≡ vec_len l.fn.queue + count_by is_none
      l.fn.levels;
  capacity : vec_capacity l.fn.queue ≤ vec_capacity l.queue;
  spread : Spreads (IsInsideOf l.components l.component l.near) l.level l.fn.levels l.fn.queue.items l.levels
      l.queue.items;
  reached : (k : ℕ) → k < l.x-index → StaysIn l.components l.component (get_or l.near k 0) → HasLevel l.levels (get_or l.near k 0);
}
