use Rattle.std.proofs.Common.{◌≡◌, ◌+◌, ◌-◌, ◌<◌, ◌≤◌, length, get_or}
use Rattle.ld_graph.specs.Inner.Affected.{IsFound}
use Rattle.ld_graph.specs.Lists.{IsNear, list_at}
use Rattle.ld_graph.proofs.affected.find_affected.Given as goal

abbrev pub invariant-loop-read_backward : goal.invariant-loop-read_backward
invariant-loop-read_backward g l = record {
  backward_size : l.backward.size ≡ l.fn.backward.size;
  forward_size : l.forward.size ≡ l.fn.forward.size;
  steps : l.steps ≡ l.fn.steps + 2 + l.done_backward + l.done_forward;
  backward_waits : l.done_backward < length l.backward.found;
  forward_waits : l.done_forward < length l.forward.found;
  backward_most : length l.backward.found ≤ length l.labels;
  forward_most : length l.forward.found ≤ length l.labels;
  backward_first : get_or l.backward.found 0 0 ≡ l.a;
  forward_first : get_or l.forward.found 0 0 ≡ l.b;
  backward_near : l.near_backward ≡ list_at l.lists.before.lists (get_or l.backward.found l.done_backward 0);
  forward_near : l.near_forward ≡ list_at l.lists.after.lists (get_or l.forward.found l.done_forward 0);
  backward : IsFound (IsNear l.lists.before.lists) (λ x. get_or l.labels x 0) (length l.labels) l.low l.high
      l.backward.found l.done_backward;
  forward : IsFound (IsNear l.lists.after.lists) (λ x. get_or l.labels x 0) (length l.labels) l.low l.high
      l.forward.found l.done_forward;
}

abbrev pub decreases-loop-read_backward : goal.decreases-loop-read_backward
decreases-loop-read_backward g l = length l.labels + length l.labels - l.done_backward - l.done_forward
