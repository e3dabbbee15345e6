use Rattle.std.proofs.Common.{◌≡◌, ◌≢◌, ◌+◌, ◌-◌, ◌<◌, length, get_or}
use Rattle.ld_order.specs.Inner.Rings.{rank}
use Rattle.ld_order.proofs.labels.sparse.Given as goal

abbrev pub invariant-loop-node : goal.invariant-loop-node
invariant-loop-node l = record {
  within : l.node < length l.labels;
  here : l.node ≢ 0 → rank (length l.labels) (λ k. get_or l.labels k 0) l.node
      ≡ rank (length l.labels) (λ k. get_or l.labels k 0) l.at + l.count + 1;
  end : l.node ≡ 0 → rank (length l.labels) (λ k. get_or l.labels k 0) l.at + l.count + 1 ≡ length l.labels;
  nodes : rank (length l.labels) (λ k. get_or l.labels k 0) l.at + l.count < length l.labels;
}

abbrev pub decreases-loop-node : goal.decreases-loop-node
decreases-loop-node l = length l.labels - l.count
