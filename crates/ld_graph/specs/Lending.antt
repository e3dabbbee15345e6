-- What a graph is once its ranks, which were lent, are back.
use Rattle.std.specs.Prelude.{◌≡◌, ⊤}
use Rattle.std.specs.Borrow.{follows_so, MutBor, Fml}
use mathlib.Core.Option.{none}
use denote.RattleType.{RattleType}
use Rattle.ld_graph.specs.Edges.{PlainGraph}
use Rattle.ld_graph.specs.contracts.graph.Graph.{the_row}
use Rattle.ld_graph.specs.declared.lists.Counting.{Ghosts}

-- it is as it was
abbrev pub StaysAs : (C : RattleType) → Ghosts C.Denot → MutBor PlainGraph → Fml
StaysAs C counting graph =
    follows_so (the_row C counting) (the_row C counting) graph.ghost_name none (λ _ _. ⊤) (λ last. last ≡ graph.now)
