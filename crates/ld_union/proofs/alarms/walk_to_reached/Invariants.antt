use Rattle.std.proofs.Common.{All, ℕ, take}
use Rattle.ld_union.specs.Inner.Numbers.{IsForbiddenAt}
use Rattle.ld_union.specs.Inner.Union.{edges_of}
use Rattle.ld_union.specs.Usage.{bits_of}
use Rattle.ld_union.proofs.alarms.walk_to_reached.Given as goal

abbrev pub invariant-loop-class : goal.invariant-loop-class
invariant-loop-class l =
    All (λ class. (from : ℕ) → ¬ IsForbiddenAt (edges_of l.union.dependencies) (bits_of l.union.usage) l.state from class) (take l.class-index l.classes)
