-- What an entry of a page is: 32 bits, of which the lowest 5 tell its kind and the others a time, and then its
-- data, a length, or the rest of a time.
use Rattle.std.specs.Prelude.{ℕ, ◌+◌, ◌-◌, ◌*◌, ◌/◌, ◌%◌, ◌^◌, Bool, ◌&&◌, ◌||◌, not, ◌==◌, nat_lt, nat_le, List, length, Option, Some, None, if◌then◌else◌}
use Rattle.ld_pages.specs.declared.entry.Entry.{Entry}
use Rattle.ld_pages.specs.Words.{word_at}

-- the second word of the entry at p; 0 where the bytes end before it ends
abbrev pub second_at : List ℕ → ℕ → ℕ
second_at bytes p = if nat_lt (length bytes - p) 8 then 0 else word_at bytes (p + 4)

-- the entry at p
abbrev pub entry_at : List ℕ → ℕ → Entry
entry_at bytes p = record { kind = word_at bytes p % 32; delta = word_at bytes p / 32; second = second_at bytes p }

-- nothing but padding from here to the end of the data
abbrev pub is_padding : Entry → Bool
is_padding e = e.kind == 29 && e.delta == 0

-- Kinds 1 to 28 are events of so many words. An event of kind 0 has its length in its second word.
abbrev pub is_event : Entry → Bool
is_event e = nat_lt e.kind 29

-- The second word is a length, which counts itself and the data: of an event of kind 0, and of a discarded event,
-- which has kind 29 and a time.
abbrev pub has_length : Entry → Bool
has_length e = e.kind == 0 || e.kind == 29

-- a length that no event has
abbrev pub is_malformed : Entry → Bool
is_malformed e = has_length e && (nat_lt e.second 4 || not (e.second % 4 == 0))

-- how many bytes its words have that aren't data
abbrev pub least_span : Entry → ℕ
least_span e = if e.kind == 0 || nat_le 29 e.kind then 8 else 4

-- how many bytes it takes
abbrev pub span : Entry → ℕ
span e = if has_length e then 4 + e.second else if nat_lt e.kind 29 then 4 + 4 * e.kind else 8

-- where the data of an event begin, from the entry's begin
abbrev pub data_offset : Entry → ℕ
data_offset e = if e.kind == 0 then 8 else 4

-- how many bytes of data an event has
abbrev pub data_size : Entry → ℕ
data_size e = if e.kind == 0 then e.second - 4 else 4 * e.kind

-- 59 bits of a time: 27 of the first word, 32 of the second
abbrev pub wide : Entry → ℕ
wide e = e.delta + 2 ^ 27 * e.second

-- The time that an entry of kind 31 is. The bits from 59 on are those of the time before it; where some of them is
-- set, and the time would go back, bit 59 was carried into.
abbrev pub stamped_time : Entry → ℕ → ℕ
stamped_time e before =
    let upper = before - before % 2 ^ 59 in
    if upper == 0 || nat_le before (upper + wide e) then upper + wide e else upper + wide e + 2 ^ 59

-- The time after an entry. Kind 30 adds 59 bits to it; the others add their own 27.
abbrev pub time_after : Entry → ℕ → ℕ
time_after e before =
    if e.kind == 31 then stamped_time e before
    else if e.kind == 30 then before + wide e
    else before + e.delta

-- a time, if 64 bits hold it
abbrev pub fitting : ℕ → Option ℕ
fitting time = if nat_lt time (2 ^ 64) then Some time else None
