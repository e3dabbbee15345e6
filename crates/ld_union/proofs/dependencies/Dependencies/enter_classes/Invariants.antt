use Rattle.std.proofs.Common.{◌≡◌, ◌+◌, ◌≤◌, List}
use Rattle.ld_graph.specs.declared.Edge.{Edge}
use Rattle.ld_union.specs.Inner.Reached.{AreFurther, StayExact}
use Rattle.ld_union.proofs.dependencies.Dependencies.enter_classes.Given as goal

abbrev pub invariant-loop : goal.invariant-loop
invariant-loop l = record {
  so_far : l.self.graph.classes ≡ l.counter;
  room : l.count ≤ l.self.graph.classes + l.self.graph.spare_classes;
  edges : l.self.graph.edges ≡ l.fn.self.graph.edges;
  spare : l.self.graph.spare_edges ≡ l.fn.self.graph.spare_edges;
  rows : l.self.rows ≡ l.fn.self.rows;
  closing : l.self.closing ≡ l.fn.self.closing;
  room_hard : l.count ≤ l.self.graph.classes + l.self.reach.hard.spare;
  room_soft : l.count ≤ l.self.graph.classes + l.self.reach.soft.spare;
  further : AreFurther l.fn.self.reach l.self.reach;
  exact : (edges : List Edge) → StayExact edges edges l.fn.self.reach l.self.reach;
}
