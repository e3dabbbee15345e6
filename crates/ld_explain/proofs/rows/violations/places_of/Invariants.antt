use Rattle.std.specs.Prelude.{All, List}
use Rattle.ld_trace.specs.Sources.{PlainSource}
use Rattle.ld_explain.specs.Steps.{IsAtFirst}
use Rattle.ld_explain.proofs.rows.violations.places_of.Given as goal

abbrev pub invariant-loop-step : goal.invariant-loop-step
invariant-loop-step l = (sources : List PlainSource) → All (IsAtFirst sources) l.fn.needed.steps.items
    → All (IsAtFirst sources) l.steps → All (IsAtFirst sources) l.needed.steps.items
