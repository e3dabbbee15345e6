use Rattle.std.proofs.Common.{◌≡◌, ◌+◌, ◌<◌, ◌-◌, length, get_or}
use Rattle.ld_order.specs.Inner.Rings.{IsRing, IsOneOf, IsShifted}
use Rattle.ld_order.proofs.moves.shift.Given as goal

abbrev pub invariant-loop-node : goal.invariant-loop-node
invariant-loop-node l = record {
  ring : IsRing l.labels l.next l.prev;
  left : l.left + l.node-index ≡ length l.found;
  len : length l.labels ≡ length l.fn.labels;
  next_len : length l.next ≡ length l.fn.next;
  prev_len : length l.prev ≡ length l.fn.prev;
  begin : l.node-index ≡ 0 → l.behind ≡ l.at;
  last : 0 < l.node-index → l.behind ≡ get_or l.found (l.node-index - 1) 0;
  next : get_or l.next l.behind 0 ≡ get_or l.fn.next l.at 0;
  shifted : IsShifted (length l.fn.labels) (λ k. get_or l.fn.labels k 0) (λ k. get_or l.labels k 0)
      (IsOneOf l.found l.node-index) l.at;
}
