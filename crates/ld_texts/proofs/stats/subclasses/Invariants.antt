use Rattle.std.proofs.Common.{◌≡◌, ◌≤◌, take}
use Rattle.std.specs.Prelude.{◌==◌, filter, length, not}
use Rattle.ld_texts.proofs.stats.subclasses.Given as goal

-- of the classes that were looked at
abbrev pub invariant-loop-number : goal.invariant-loop-number
invariant-loop-number l =
    (l.count ≡ length (filter (λ class. not (class.sub == 0)) (take l.number l.classes))) × (l.count ≤ l.number)
