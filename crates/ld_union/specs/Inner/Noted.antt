-- What became of dependencies as some were noted. No contract of a `Book` cites this file.
use Rattle.std.specs.Prelude.{◌≡◌, ℕ, ◌+◌, ◌≤◌, ◌++◌, List, length, fold, map, take, vec_len, vec_capacity, Option}
use Rattle.ld_class.specs.Names.{PlainClass}
use Rattle.ld_rules.specs.declared.outcome.Witness.{Witness}
use Rattle.ld_rules.specs.Dependency.{Dependency}
use Rattle.ld_batch.specs.declared.rows.WitnessedEdge.{WitnessedEdge}
use Rattle.ld_batch.specs.Batch.{Met, named_dependency}
use Rattle.ld_union.specs.declared.dependencies.Dependencies.{Dependencies}
use Rattle.ld_union.specs.Inner.Reached.{AreFurther, StayExact}
use Rattle.ld_union.specs.Inner.Union.{AreBetween, AreWitnessed, IsCycleEdge, edges_of, with_seen}

-- the first witnesses, where all of these were seen too: of each the earliest one
abbrev pub with_all : (Dependency → Option Witness) → List (Met Dependency) → Dependency → Option Witness
with_all first met = fold (λ before m. with_seen before m.what m.witness) first met

-- These dependencies between classes of a batch were noted in a union with these names. No class came, and no more
-- edges than these took the room that there was. Each of these was seen.
pub record AreNoted (names batch : List PlainClass) (told : List WitnessedEdge) (old new : Dependencies) : Type 0 where
  pub classes : new.graph.classes ≡ old.graph.classes
  pub spare_edges : old.graph.spare_edges ≤ new.graph.spare_edges + length told
  pub spare_rows : (n : ℕ) → vec_len old.rows + (n + length told) ≤ vec_capacity old.rows
      → vec_len new.rows + n ≤ vec_capacity new.rows
  pub front : take (length old.rows.items) (edges_of new.rows.items) ≡ edges_of old.rows.items
  pub further : AreFurther old.reach new.reach
  pub exact : StayExact (edges_of old.rows.items) (edges_of new.rows.items) old.reach new.reach
  pub closing : IsCycleEdge (edges_of old.rows.items) old.closing → IsCycleEdge (edges_of new.rows.items) new.closing
  pub numbered : AreBetween names old.rows.items → AreBetween names new.rows.items
  pub witnesses : AreBetween names old.rows.items
      → (first : Dependency → Option Witness) → AreWitnessed names old.rows.items first
      → AreWitnessed names new.rows.items (with_all first (map (named_dependency batch) told))

-- Of these some were noted, and the others are left.
pub record IsNoting (names batch : List PlainClass) (told left : List WitnessedEdge) (old new : Dependencies) : Type 0 where
  pub before : List WitnessedEdge
  pub parts : before ++ left ≡ told
  pub noted : AreNoted names batch before old new
