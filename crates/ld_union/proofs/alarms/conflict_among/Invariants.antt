use Rattle.std.proofs.Common.{All, take}
use Rattle.ld_union.specs.declared.delta.NewBit.{NewBit}
use Rattle.ld_union.specs.Inner.Numbers.{IsConflictAt}
use Rattle.ld_union.specs.Usage.{bits_of}
use Rattle.ld_union.proofs.alarms.conflict_among.Given as goal

abbrev pub invariant-loop-told : goal.invariant-loop-told
invariant-loop-told l = All (λ (t : NewBit). ¬ IsConflictAt (bits_of l.rows) l.state t.class) (take l.told-index l.bits)
