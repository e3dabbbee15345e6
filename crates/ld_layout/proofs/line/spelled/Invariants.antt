-- What was read and what is left spell the number.
use Rattle.std.proofs.Common.{◌≡◌, ◌<◌, ◌^◌, drop}
use Rattle.ld_layout.specs.Lines.{decimal, fitting}
use Rattle.ld_layout.proofs.NumberLemmas.{value_from}
use Rattle.ld_layout.proofs.line.spelled.Given as goal

abbrev pub invariant-loop-digit : goal.invariant-loop-digit
invariant-loop-digit l = record {
  told : value_from l.number (drop l.digit-index l.digits) ≡ fitting (decimal l.digits);
  small : l.number < 2 ^ 32;
}
