-- Nodes with their labels. No public contract cites this file.
use Rattle.std.specs.Prelude.{ℕ, ◌+◌, List, slice_index}
use Rattle.ld_order.specs.declared.sorted.Labelled.{Labelled}

-- the node of a class
abbrev pub node_of : ℕ → ℕ
node_of x = x + 1

-- the node of a class, with its label
abbrev pub labelled : List ℕ → ℕ → Labelled
labelled labels x = record { label = slice_index labels (x + 1); node = x + 1 }
