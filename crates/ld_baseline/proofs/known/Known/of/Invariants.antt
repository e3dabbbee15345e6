-- What some line matches, one so far matches, or one that is left.
use Rattle.std.proofs.Common.{◌≡◌, ◌||◌, length}
use Rattle.std.specs.List.{list_any}
use Rattle.ld_baseline.specs.Said.{plain_said, same_said, PlainSaid}
use Rattle.ld_baseline.specs.Match.{matches}
use Rattle.ld_baseline.specs.Known.{has_said}
use Rattle.ld_baseline.proofs.known.Known.of.Given as goal

abbrev pub invariant-loop-line : goal.invariant-loop-line
invariant-loop-line l = (said : PlainSaid) →
    ((list_any (λ key. same_said said (plain_said key)) l.plain.keys
    || list_any (λ pattern. matches (plain_said pattern) said) l.patterns.items)
    || has_said l.rest said) ≡ has_said l.known said

abbrev pub decreases-loop-line : goal.decreases-loop-line
decreases-loop-line l = length l.rest
