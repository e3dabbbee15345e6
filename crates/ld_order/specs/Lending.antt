-- What an order is once its ranks, which were lent, are back.
use Rattle.std.specs.Prelude.{◌≡◌, ⊤}
use Rattle.std.specs.Borrow.{follows_so, MutBor, Fml}
use mathlib.Core.Option.{none}
use Rattle.ld_order.specs.Orders.{Ordered}
use Rattle.ld_order.specs.contracts.order.Order.{the_row}

-- it is as it was
abbrev pub StaysAs : MutBor Ordered → Fml
StaysAs order = follows_so the_row the_row order.ghost_name none (λ _ _. ⊤) (λ last. last ≡ order.now)
