-- What holds of each of the two sides of a graph's lists. No public contract cites this file.
use Rattle.std.specs.Prelude.{ℕ, List, nat_eq}
use Rattle.std.specs.List.{IsDistinct}
use Rattle.ld_graph.specs.Lists.{list_at}

-- no list has a class twice
abbrev pub HasEachOnce : List (List ℕ) → Type 0
HasEachOnce lists = (c : ℕ) → IsDistinct nat_eq (list_at lists c)
