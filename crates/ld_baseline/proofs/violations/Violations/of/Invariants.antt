-- What a known line matches, it matches so far, or among the lines that are left.
use Rattle.std.proofs.Common.{◌≡◌, ◌||◌, false, length}
use Rattle.std.specs.List.{list_any}
use Rattle.ld_baseline.specs.Said.{plain_said, same_said, PlainSaid}
use Rattle.ld_baseline.specs.Match.{has_star, matches}
use Rattle.ld_baseline.specs.Gone.{is_there}
use Rattle.ld_baseline.proofs.violations.Violations.of.Given as goal

abbrev pub invariant-loop-line : goal.invariant-loop-line
invariant-loop-line l = record {
  exact : (known : PlainSaid) → has_star known ≡ false →
      (list_any (λ key. same_said known (plain_said key)) l.exact.keys || is_there l.rest known) ≡ is_there l.report known;
  all : (known : PlainSaid) →
      (list_any (λ said. matches known (plain_said said)) l.all.items || is_there l.rest known) ≡ is_there l.report known;
}

abbrev pub decreases-loop-line : goal.decreases-loop-line
decreases-loop-line l = length l.rest
