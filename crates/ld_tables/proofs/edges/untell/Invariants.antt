use Rattle.std.proofs.Common.{◌≡◌, ◌<◌, ◌&&◌, ℕ, get_or, length, not, take}
use Rattle.ld_class.specs.Blocks.{is_on}
use Rattle.ld_tables.specs.Inner.Edges.{has_told}
use Rattle.ld_tables.proofs.edges.untell.Given as goal

abbrev pub invariant-loop-telling : goal.invariant-loop-telling
invariant-loop-telling l = record {
  many : length l.told.items ≡ length l.fn.told.items;
  off : (n k : ℕ) → n < length l.told.items → k < 64 → is_on (get_or l.told.items n 0) k ≡ (is_on (get_or l.fn.told.items n 0) k && not (has_told (take l.telling-index l.tellings) n k));
}
