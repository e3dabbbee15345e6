-- Whether alarms stand. No public contract cites this file.
use Rattle.std.specs.Prelude.{◌||◌, Bool, List, Option, None, is_some, slice_index_or}
use Rattle.ld_book.specs.OfUnion.declared.alarms.Alarms.{Alarms}

-- one of two alarms stands
abbrev pub either_stands : {A : Type 0} → List (Option A) → Bool
either_stands alarms = is_some (slice_index_or alarms 0 None) || is_some (slice_index_or alarms 1 None)

-- one of all alarms stands
abbrev pub any_stands : Alarms → Bool
any_stands alarms = is_some alarms.cycle || (either_stands alarms.conflict || either_stands alarms.forbidden)
