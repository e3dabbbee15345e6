use Rattle.std.proofs.Common.{◌≡◌, ◌<◌, ℕ, get_or}
use Rattle.ld_occurrences.proofs.FirstLemmas.{no_edge}
use Rattle.ld_occurrences.proofs.rows.first_line.Given as goal

abbrev pub invariant-loop-edge : goal.invariant-loop-edge
invariant-loop-edge l = (k : ℕ) → k < l.edge-index → l.from ≡ (get_or l.edges k no_edge).from → l.to ≡ (get_or l.edges k no_edge).to → ⊥
