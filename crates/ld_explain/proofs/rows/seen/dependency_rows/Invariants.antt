use Rattle.std.specs.Prelude.{All, List}
use Rattle.ld_trace.specs.Sources.{PlainSource}
use Rattle.ld_explain.specs.Rows.{IsFirstRow}
use Rattle.ld_explain.specs.Steps.{IsAtFirst}
use Rattle.ld_explain.proofs.rows.seen.dependency_rows.Given as goal

abbrev pub invariant-loop-step : goal.invariant-loop-step
invariant-loop-step l = (sources : List PlainSource) → All (IsAtFirst sources) l.steps
    → All (IsFirstRow sources) l.rows.items
