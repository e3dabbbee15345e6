use Rattle.std.specs.Prelude.{◌≡◌, All, List, map, take}
use Rattle.ld_trace.specs.Sources.{PlainSource}
use Rattle.ld_explain.specs.Rows.{row_said}
use Rattle.ld_explain.specs.Steps.{AreFirst, IsAtFirst, violation_said}
use Rattle.ld_explain.proofs.rows.violations.violation_rows.Given as goal

abbrev pub invariant-loop-violation : goal.invariant-loop-violation
invariant-loop-violation l = record {
  said : map row_said l.rows.items ≡ map violation_said (take l.violation-index l.violations);
  first : (sources : List PlainSource) → All (IsAtFirst sources) l.fn.needed.steps.items
      → All (AreFirst sources) l.violations → All (IsAtFirst sources) l.needed.steps.items;
}
