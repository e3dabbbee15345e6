use Rattle.std.proofs.Common.{◌-◌, ◌<◌, ℕ, get_or, length}
use Rattle.ld_graph.specs.Inner.Levels.{HasLevel}
use Rattle.ld_graph.proofs.levels.known_front.Given as goal

abbrev pub invariant-loop-known : goal.invariant-loop-known
invariant-loop-known l = (i : ℕ) → i < l.known → HasLevel l.levels (get_or l.wanted i 0)

abbrev pub decreases-loop-known : goal.decreases-loop-known
decreases-loop-known l = length l.wanted - l.known
