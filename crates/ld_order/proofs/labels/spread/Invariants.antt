use Rattle.std.proofs.Common.{◌≡◌, ◌<◌, ◌+◌, ◌*◌, length, get_or}
use Rattle.ld_order.specs.Inner.Rings.{IsSpread, rank}
use Rattle.ld_order.proofs.labels.spread.Given as goal

abbrev pub invariant-loop : goal.invariant-loop
invariant-loop l = record {
  within : l.node < length l.fn.labels;
  here : rank (length l.fn.labels) (λ k. get_or l.fn.labels k 0) l.node
      ≡ rank (length l.fn.labels) (λ k. get_or l.fn.labels k 0) l.at + l.counter;
  label : l.label ≡ get_or l.fn.labels l.at 0 + (l.left + l.counter) * l.step;
  len : length l.labels ≡ length l.fn.labels;
  spread : IsSpread (length l.fn.labels) (λ k. get_or l.fn.labels k 0) (λ k. get_or l.labels k 0) l.at l.left l.counter l.step;
}
