use Rattle.std.proofs.Common.{◌+◌, ◌-◌, ◌<◌, ◌≤◌, ℕ, length, count_by, get_or, is_none, vec_len, vec_capacity}
use Rattle.ld_graph.specs.Inner.Insides.{IsNearInside}
use Rattle.ld_graph.specs.Inner.Levels.{HasLevel}
use Rattle.ld_graph.proofs.SearchLemmas.{IsPartial}
use Rattle.ld_graph.proofs.levels.measure.Given as goal

abbrev pub invariant-loop-done : goal.invariant-loop-done
invariant-loop-done l = record {
  count : vec_len l.queue + count_by is_none l.levels ≤ length l.lists.before.lists;
  known : (i : ℕ) → i < l.known → HasLevel l.levels (get_or l.wanted i 0);
  capacity : vec_capacity l.fn.queue ≤ vec_capacity l.queue;
  partial : IsPartial (IsNearInside l.lists.before.lists l.components l.component) l.end l.done l.levels l.queue.items;
}

-- each class waits once, so there is an end: what waits and what has no level together never grow
abbrev pub decreases-loop-done : goal.decreases-loop-done
decreases-loop-done l = vec_len l.queue + count_by is_none l.levels - l.done
