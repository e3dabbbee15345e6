-- Which dependencies are known to have been seen before a trace: a cache of a union's dependencies. No contract of a
-- `Book` cites this file.
use Rattle.std.specs.Prelude.{◌≡◌, ℕ, ◌+◌, ◌*◌, ◌/◌, ◌%◌, ◌<◌, ◌&&◌, Bool, true, List, ltb, nat_eq, slice_index_or}
use Rattle.std.specs.List.{list_any}
use Rattle.ld_class.specs.Blocks.{is_on}
use Rattle.ld_graph.specs.declared.Edge.{Edge}
use Rattle.ld_union.specs.declared.dependencies.Witnessed.{Witnessed}
use Rattle.ld_union.specs.declared.dependencies.earlier.Block.{Block}

-- no dependency of 64 classes
abbrev pub no_block : Block
no_block = record { bits = 0; latest = 0 }

-- the place of the block that a dependency is of: each acquired class has 16 blocks of 64 classes
abbrev pub block_of : Edge → ℕ
block_of e = e.to * 16 + e.from / 64

-- The dependency is one of those that were seen, each in a trace with a lesser number.
pub record IsKnownEarlier (blocks : List Block) (e : Edge) (number : ℕ) : Type 0 where
  pub few : e.from < 1024
  pub on : is_on (slice_index_or blocks (block_of e) no_block).bits (e.from % 64) ≡ true
  pub later : (slice_index_or blocks (block_of e) no_block).latest < number

-- a row of this dependency has a first occurrence in an earlier trace
abbrev pub is_earlier : Edge → ℕ → Witnessed → Bool
is_earlier e number row = nat_eq row.edge.from e.from && nat_eq row.edge.to e.to && ltb row.first.number number

-- Each dependency of which that is known has such a row.
abbrev pub AreEarlier : List Witnessed → List Block → Type 0
AreEarlier rows blocks = (e : Edge) (number : ℕ) → IsKnownEarlier blocks e number → list_any (is_earlier e number) rows ≡ true
