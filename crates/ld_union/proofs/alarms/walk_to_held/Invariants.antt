use Rattle.std.proofs.Common.{◌≡◌, All, ℕ, take}
use Rattle.ld_rules.specs.Usage.{usage_of}
use Rattle.ld_rules.specs.Usage.Bit.{On}
use Rattle.ld_union.specs.Inner.Numbers.{IsForbiddenAt}
use Rattle.ld_union.specs.declared.delta.NewBit.{NewBit}
use Rattle.ld_union.specs.Inner.Union.{edges_of}
use Rattle.ld_union.specs.Usage.{bits_of}
use Rattle.ld_union.proofs.alarms.walk_to_held.Given as goal

abbrev pub invariant-loop-told : goal.invariant-loop-told
invariant-loop-told l =
    All (λ (told : NewBit). told.bit ≡ usage_of (On l.state) → (from : ℕ) → ¬ IsForbiddenAt (edges_of l.union.dependencies) (bits_of l.union.usage) l.state from told.class) (take l.told-index l.bits)
