-- What the ranks are once they, which were lent, are back. No public contract cites this file.
use Rattle.std.specs.Prelude.{◌≡◌, ⊤}
use Rattle.std.specs.Borrow.{follows_so, MutBor, Fml}
use mathlib.Core.Option.{none}
use Rattle.ld_order.specs.Orders.{Ordered}
use Rattle.ld_graph.specs.contracts.ranks.Ranks.{the_row}

-- they are as they were
abbrev pub StayAs : MutBor Ordered → Fml
StayAs ranks = follows_so the_row the_row ranks.ghost_name none (λ _ _. ⊤) (λ last. last ≡ ranks.now)
