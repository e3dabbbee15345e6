-- The usage bits of numbered classes, as the scan keeps them. No contract of a `Batch` cites this file.
use Rattle.std.specs.Prelude.{ℕ, Bool, false, ◌&&◌, ◌==◌, List, [], ◌∷◌, ◌++◌, ◌≡◌, ◌<◌, length, map, take}
use Rattle.std.specs.Prelude.{reverse, slice_index_or, if◌then◌else◌}
use Rattle.std.specs.List.{list_any}
use Rattle.ld_class.specs.declared.usage.Usage.{Usage}
use Rattle.ld_class.specs.Usage.{has_bit, no_bits}
use Rattle.ld_trace.specs.declared.event.State.TheVariants.{Hard, Soft}
use Rattle.ld_tables.specs.declared.uses.UsageFact.{UsageFact}
use Rattle.ld_tables.specs.declared.interrupts.Interrupts.{Interrupts}
use Rattle.ld_tables.specs.Inner.Interrupts.{enabled_now, states_of}
use Rattle.ld_rules.specs.Usage.{Bit, IsBit, usage_of}
use Rattle.ld_rules.specs.Usage.Bit.{In, On}

-- the same bit of the same class
abbrev pub same_fact : UsageFact → UsageFact → Bool
same_fact a b = a.class == b.class && a.bit.0 == b.bit.0

-- the usage with this bit, where it isn't there yet
abbrev pub with_use : List UsageFact → UsageFact → List UsageFact
with_use facts more = facts ++ (if list_any (same_fact more) facts then [] else more ∷ [])

-- a set of the bits of a class, at this line
abbrev pub use_at : Usage → ℕ → ℕ → UsageFact
use_at usage line class = record { class = class; bit = usage; line = line }

-- a bit of a class, at this line
abbrev pub fact : Bit → ℕ → ℕ → UsageFact
fact bit line class = use_at (usage_of bit) line class

-- those of a class that is waited for in these contexts: the outermost first
abbrev pub in_facts : Interrupts → ℕ → ℕ → List UsageFact
in_facts interrupts line class =
    map (λ state. fact (In state) line class) (reverse (states_of interrupts))

-- those of classes that are held with these flags, hard ones first
abbrev pub on_facts : Interrupts → ℕ → List ℕ → List UsageFact
on_facts interrupts line classes =
    map (fact (On Hard) line) (if enabled_now Hard interrupts then classes else [])
    ++ map (fact (On Soft) line) (if enabled_now Soft interrupts then classes else [])

-- for each class the set of the bits that stand there, each bit of each class once
pub record AreNoted (facts : List UsageFact) (known : List Usage) : Type 0 where
  pub noted : (class : ℕ) (bit : Bit)
      → has_bit (slice_index_or known class no_bits) (usage_of bit)
      ≡ list_any (same_fact (fact bit 0 class)) facts
  pub bits : (i : ℕ) (d : UsageFact) → i < length facts → IsBit (slice_index_or facts i d).bit
  pub once : (i : ℕ) (d : UsageFact) → i < length facts
      → list_any (same_fact (slice_index_or facts i d)) (take i facts) ≡ false
