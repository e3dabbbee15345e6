-- The field of a name stands among those that are left.
use Rattle.std.proofs.Common.{◌≡◌, length, map}
use Rattle.ld_layout.specs.Fields.{plain}
use Rattle.ld_layout.specs.Texts.{field_named}
use Rattle.ld_layout.proofs.fields.field_named.Given as goal

abbrev pub invariant-loop-rest : goal.invariant-loop-rest
invariant-loop-rest l = field_named l.name (map plain l.rest) ≡ field_named l.name (map plain l.fields)

abbrev pub decreases-loop-rest : goal.decreases-loop-rest
decreases-loop-rest l = length l.rest
