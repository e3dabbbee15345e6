-- Walks by the numbers of their classes, and the rows that they are of. No contract of a `Book` cites this file.
use Rattle.std.specs.Prelude.{ℕ, ◌<◌, List, All, None, map, slice_index_or, unwrap_or}
use Rattle.ld_class.specs.Names.{PlainClass, no_class}
use Rattle.ld_class.specs.Usage.{marks_of}
use Rattle.ld_trace.specs.declared.event.State.{State}
use Rattle.ld_rules.specs.declared.outcome.Witness.{Witness}
use Rattle.ld_rules.specs.Usage.{Bit}
use Rattle.ld_rules.specs.Usage.Bit.{In, On}
use Rattle.ld_union.specs.declared.usage.UsageRow.{UsageRow}
use Rattle.ld_union.specs.Forbidden.{PlainForbiddenRow}
use Rattle.ld_union.specs.Inner.Seen.{first_in}
use Rattle.ld_union.specs.Inner.Union.{PlainUnion}
use Rattle.ld_union.specs.Usage.{row_of}

-- a walk between two classes, by numbers
pub record NumberedWalk : Type 0 where
  pub from : ℕ
  pub to : ℕ
  pub via : List ℕ

-- all numbers of a walk are below this one
pub record IsWithin (count : ℕ) (walk : NumberedWalk) : Type 0 where
  pub from : walk.from < count
  pub to : walk.to < count
  pub via : All (λ c. c < count) walk.via

-- the usage of a class
abbrev pub usage_at : PlainUnion → ℕ → UsageRow
usage_at union class = slice_index_or union.usage class (row_of (λ bit. None))

-- what stands for the place of a bit that wasn't seen
abbrev pub nowhere : Witness
nowhere = record { number = 0; line = 0 }

-- the name, the usage characters and the first occurrence that a row says of a class with a bit
abbrev pub named_at : PlainUnion → ℕ → PlainClass
named_at union class = slice_index_or union.classes class no_class

abbrev pub marks_at : PlainUnion → ℕ → List ℕ
marks_at union class = marks_of (usage_at union class).bits

abbrev pub first_at : PlainUnion → ℕ → Bit → Witness
first_at union class bit = unwrap_or (first_in (usage_at union class) bit) nowhere

-- the row of a walk
abbrev pub walk_row : PlainUnion → State → NumberedWalk → PlainForbiddenRow
walk_row union state walk = record {
  state = state;
  from = named_at union walk.from;
  from_marks = marks_at union walk.from;
  safe_at = first_at union walk.from (In state);
  to = named_at union walk.to;
  to_marks = marks_at union walk.to;
  unsafe_at = first_at union walk.to (On state);
  via = map (named_at union) walk.via;
}
