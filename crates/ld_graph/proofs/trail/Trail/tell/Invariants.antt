use Rattle.std.proofs.Common.{◌≡◌, ◌≤◌, count_by, length, take, vec_len}
use Rattle.ld_graph.specs.Inner.Trails.{IsToldFrom, is_fresh, last_of, shown}
use Rattle.ld_graph.proofs.trail.Trail.tell.Given as goal

abbrev pub invariant-loop-top : goal.invariant-loop-top
invariant-loop-top l = record {
  path : l.self.path.items ≡ take (last_of (shown l.fn.self)) l.fn.self.path.items;
  nexts : l.self.nexts.items ≡ l.fn.self.nexts.items;
  long : l.top.position ≤ vec_len l.self.waiting;
  within : vec_len l.self.waiting ≤ length l.fn.self.waiting.items;
  waiting : l.self.waiting.items ≡ take (vec_len l.self.waiting) l.fn.self.waiting.items;
  stages : IsToldFrom l.fn.self.waiting.items (vec_len l.self.waiting) l.top.class l.fn.self.stages.items l.self.stages.items;
  count : count_by is_fresh l.self.stages.items ≡ count_by is_fresh l.fn.self.stages.items;
}

abbrev pub decreases-loop-top : goal.decreases-loop-top
decreases-loop-top l = vec_len l.self.waiting
