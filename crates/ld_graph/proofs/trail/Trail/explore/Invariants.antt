use Rattle.std.proofs.Common.{◌≡◌, ℕ}
use Rattle.ld_graph.specs.declared.trail.Stage.TheVariants.{Fresh}
use Rattle.ld_graph.specs.Inner.Trails.{IsTrail, shown, stage_at, work}
use Rattle.ld_graph.proofs.trail.Trail.explore.Given as goal

abbrev pub invariant-loop-self : goal.invariant-loop-self
invariant-loop-self l = record {
  trail : IsTrail l.lists.after.lists (shown l.self);
  met : (x : ℕ) → stage_at (shown l.self) x ≡ Fresh → stage_at (shown l.fn.self) x ≡ Fresh;
}

abbrev pub decreases-loop-self : goal.decreases-loop-self
decreases-loop-self l = work l.lists.after.lists (shown l.self)
