use Rattle.std.proofs.Common.{◌≡◌, ◌*◌, ◌<◌, ℕ, length, get_or}
use Rattle.ld_order.specs.Inner.Rings.{rank}
use Rattle.ld_order.proofs.labels.relabel.Given as goal

abbrev pub invariant-loop-place : goal.invariant-loop-place
invariant-loop-place l = record {
  within : l.node < length l.fn.labels;
  here : l.place < length l.fn.labels → rank (length l.fn.labels) (λ k. get_or l.fn.labels k 0) l.node ≡ l.place;
  label : l.place < length l.fn.labels → l.label ≡ l.place * l.step;
  len : length l.labels ≡ length l.fn.labels;
  done : (c : ℕ) → c < length l.fn.labels → rank (length l.fn.labels) (λ k. get_or l.fn.labels k 0) c < l.place
      → get_or l.labels c 0 ≡ rank (length l.fn.labels) (λ k. get_or l.fn.labels k 0) c * l.step;
}
