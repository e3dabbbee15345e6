-- The field that is sought is the one at the places left, of what is left.
use Rattle.std.proofs.Common.{◌≡◌, ◌-◌}
use Rattle.ld_baseline.specs.Said.{field}
use Rattle.ld_baseline.proofs.said.field.Given as goal

abbrev pub invariant-loop : goal.invariant-loop
invariant-loop l = field l.rest (l.place - l.counter) ≡ field l.text l.place
