-- What the batch that was added last showed for the first time. No contract of a `Book` cites this file.
use Rattle.std.specs.Prelude.{◌≡◌, ℕ, true, false, List, length, take, count_by, slice_index_or, All, Contains}
use Rattle.ld_class.specs.declared.usage.Usage.{Usage}
use Rattle.ld_trace.specs.declared.event.State.{State}
use Rattle.ld_rules.specs.Usage.{Bit, IsBit, bit_of}
use Rattle.ld_union.specs.declared.delta.NewBit.{NewBit}
use Rattle.ld_union.specs.declared.reaches.PerState.{PerState}
use Rattle.ld_union.specs.Inner.Bits.{HasBitAt, new_bit}
use Rattle.ld_union.specs.Inner.Reached.{IsSourceAt}
use Rattle.ld_union.specs.Inner.States.{of_state}
use Rattle.ld_union.specs.Inner.Union.{PlainUnion, edges_of}
use Rattle.ld_union.specs.Usage.{bits_of}

-- it is one bit, which the class has now and didn't have before
pub record IsNew (old new : List Usage) (told : NewBit) : Type 0 where
  pub one : IsBit told.bit
  pub now : HasBitAt new told.class (bit_of told.bit)
  pub before : ¬ HasBitAt old told.class (bit_of told.bit)

-- Bits stay, and just the new ones are told.
pub record TellsBits (old new : List Usage) (told : List NewBit) : Type 0 where
  pub kept : (class : ℕ) (bit : Bit) → HasBitAt old class bit → HasBitAt new class bit
  pub each : All (IsNew old new) told
  pub all : (class : ℕ) (bit : Bit) → HasBitAt new class bit → ¬ HasBitAt old class bit → Contains told (new_bit class bit)

-- what is told: the new bits, and for each state the place from which on classes were reached by what was added
-- last
pub record PlainDelta : Type 0 where
  pub bits : List NewBit
  pub first_reached : PerState ℕ

-- The edges that there were stand in front, just the new bits are told, the classes in front of the place are
-- those that were reached before, and each of these had a source before. A class that was expanded stays so, and
-- each reach has read as many lists as there are such classes, in all its life.
pub record Tells (old new : PlainUnion) (delta : PlainDelta) : Type 0 where
  pub front : take (length old.dependencies) (edges_of new.dependencies) ≡ edges_of old.dependencies
  pub bits : TellsBits (bits_of old.usage) (bits_of new.usage) delta.bits
  pub reached : (state : State) → of_state delta.first_reached state ≡ length (of_state old.reached state)
  pub still : (state : State) → take (of_state delta.first_reached state) (of_state new.reached state) ≡ of_state old.reached state
  pub from : (state : State) (class : ℕ) → Contains (of_state old.reached state) class
      → (from : ℕ) × IsSourceAt (edges_of old.dependencies) (bits_of old.usage) state class from
  pub stays : (state : State) (class : ℕ) → slice_index_or (of_state old.marks state) class false ≡ true
      → slice_index_or (of_state new.marks state) class false ≡ true
  pub once : (state : State) → of_state new.expanded state ≡ count_by (λ mark. mark) (of_state new.marks state)
