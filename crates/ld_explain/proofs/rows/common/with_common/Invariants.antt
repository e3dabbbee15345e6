-- The rows so far say what the violations so far do, and the others are left.
use Rattle.std.specs.Prelude.{◌≡◌, ◌++◌, map}
use Rattle.ld_explain.specs.Rows.{row_said}
use Rattle.ld_explain.proofs.rows.common.with_common.Given as goal

abbrev pub invariant-loop-violation : goal.invariant-loop-violation
invariant-loop-violation l = map row_said l.rows.items ++ map row_said l.violation-iterator.rest.items ≡ map row_said l.fn.violations.items
