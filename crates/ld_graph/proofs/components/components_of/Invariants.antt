use Rattle.std.proofs.Common.{◌≡◌, ◌<◌, ℕ, length}
use Rattle.ld_graph.specs.declared.trail.Stage.TheVariants.{Fresh}
use Rattle.ld_graph.specs.Inner.Trails.{IsTrail, shown, stage_at}
use Rattle.ld_graph.proofs.components.components_of.Given as goal

abbrev pub invariant-loop-root : goal.invariant-loop-root
invariant-loop-root l = record {
  trail : IsTrail l.lists.after.lists (shown l.trail);
  path : length l.trail.path.items ≡ 0;
  met : (x : ℕ) → x < l.root → stage_at (shown l.trail) x ≡ Fresh → ⊥;
}
