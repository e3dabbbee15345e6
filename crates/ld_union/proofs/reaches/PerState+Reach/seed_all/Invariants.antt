use Rattle.std.proofs.Common.{List, ℕ, take}
use Rattle.ld_graph.specs.Edges.{IsEdge}
use Rattle.ld_graph.specs.Reach.{IsReach}
use Rattle.ld_trace.specs.declared.event.State.{State}
use Rattle.ld_union.specs.Inner.Reached.{AreFurther, HaveClasses, IsSeeded}
use Rattle.ld_union.specs.Inner.States.{of_state}
use Rattle.ld_union.proofs.reaches.PerState+Reach.seed_all.Given as goal

abbrev pub invariant-loop-told : goal.invariant-loop-told
invariant-loop-told l = record {
  classes : HaveClasses l.graph.classes l.self;
  exact : (state : State) (seeds : List ℕ) → IsReach (IsEdge l.graph.edges) seeds (of_state l.fn.self state)
      → IsSeeded l.graph.edges seeds state (take l.told-index l.bits) (of_state l.self state);
  further : AreFurther l.fn.self l.self;
}
