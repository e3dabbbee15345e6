use Rattle.std.proofs.Common.{◌≡◌, ◌<◌, ℕ, get_or, vec_len}
use Rattle.ld_graph.proofs.graph.Graph.distances.Given as goal

abbrev pub invariant-loop-class : goal.invariant-loop-class
invariant-loop-class l = record {
  len : vec_len l.all ≡ l.class;
  each : (k : ℕ) → k < l.class → get_or l.all.items k 0 ≡ k;
}
