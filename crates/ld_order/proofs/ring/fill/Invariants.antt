use Rattle.std.proofs.Common.{◌≡◌, ◌+◌, ◌<◌, ℕ, length, get_or}
use Rattle.ld_order.specs.Inner.Rings.{rank}
use Rattle.ld_order.proofs.ring.fill.Given as goal

abbrev pub invariant-loop-place : goal.invariant-loop-place
invariant-loop-place l = record {
  within : l.node < length l.labels;
  here : l.place < length l.fn.ranks → rank (length l.labels) (λ k. get_or l.labels k 0) l.node ≡ l.place + 1;
  len : length l.ranks ≡ length l.fn.ranks;
  done : (c : ℕ) → c < length l.fn.ranks → rank (length l.labels) (λ k. get_or l.labels k 0) (c + 1) < l.place + 1
      → get_or l.ranks c 0 + 1 ≡ rank (length l.labels) (λ k. get_or l.labels k 0) (c + 1);
}
