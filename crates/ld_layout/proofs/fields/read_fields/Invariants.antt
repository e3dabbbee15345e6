-- What was read and what is left are the fields of all lines.
use Rattle.std.proofs.Common.{◌≡◌, ◌+◌, ◌≤◌, length, map}
use Rattle.ld_layout.specs.Fields.{plain}
use Rattle.ld_layout.specs.Lines.{lines}
use Rattle.ld_layout.specs.Texts.{fields_from}
use Rattle.ld_layout.proofs.FieldsLemmas.{with_front}
use Rattle.ld_layout.proofs.fields.read_fields.Given as goal

abbrev pub invariant-loop-line : goal.invariant-loop-line
invariant-loop-line l = record {
  told : with_front (map plain l.fields.items) (fields_from l.number (lines l.rest)) ≡ fields_from l.first (lines l.text);
  within : l.number + length l.rest ≤ l.first + length l.text;
}

abbrev pub decreases-loop-line : goal.decreases-loop-line
decreases-loop-line l = length l.rest
