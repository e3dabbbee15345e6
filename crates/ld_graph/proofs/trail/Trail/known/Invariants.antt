use Rattle.std.proofs.Common.{◌≡◌, ◌<◌, ℕ, get_or, length}
use Rattle.ld_graph.specs.declared.trail.Stage.TheVariants.{Closed}
use Rattle.ld_graph.specs.Inner.Trails.{shown, stage_at}
use Rattle.ld_graph.proofs.trail.Trail.known.Given as goal

abbrev pub invariant-loop-stage : goal.invariant-loop-stage
invariant-loop-stage l = record {
  len : length l.known.items ≡ l.stage-index;
  each : (x : ℕ) → x < l.stage-index → stage_at (shown l.self) x ≡ Closed (get_or l.known.items x 0);
}
