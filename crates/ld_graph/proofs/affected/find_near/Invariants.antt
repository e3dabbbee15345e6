use Rattle.std.proofs.Common.{◌≡◌, ◌<◌, ℕ, Contains, get_or}
use Rattle.ld_graph.specs.Inner.Affected.{IsIn, IsReached}
use Rattle.ld_graph.proofs.affected.find_near.Given as goal

abbrev pub invariant-loop-x : goal.invariant-loop-x
invariant-loop-x l = record {
  size : l.search.size ≡ l.fn.search.size;
  reached : IsReached (Contains l.near) (λ x. get_or l.labels x 0) l.low l.high l.fn.search.found l.search.found;
  taken : (k : ℕ) → k < l.x-index → IsIn l.low l.high (get_or l.labels (get_or l.near k 0) 0)
      → Contains l.search.found (get_or l.near k 0);
}
