-- What the pages of a processor give: a definition over the bytes of all its pages, one behind the other, by
-- positions.
use Rattle.std.specs.Prelude.{ℕ, ◌+◌, ◌-◌, ◌/◌, ◌%◌, ◌^◌, ◌≡◌, ◌<◌, ◌≤◌, Bool, ◌&&◌, ◌||◌, not, ◌==◌, nat_lt, nat_le, List, length, Option, Some, None, if◌then◌else◌}
use Rattle.ld_pages.specs.declared.layout.Layout.{Layout}
use Rattle.ld_pages.specs.declared.entry.Entry.{Entry}
use Rattle.ld_pages.specs.declared.cursor.Cursor.{Cursor}
use Rattle.ld_pages.specs.declared.cursor.Item.{Item}
use Rattle.ld_pages.specs.declared.cursor.Step.{Step}
use Rattle.ld_pages.specs.declared.cursor.Wrong.{Wrong}
use Rattle.ld_pages.specs.declared.cursor.Item.TheVariants as items
use Rattle.ld_pages.specs.declared.cursor.Step.TheVariants as steps
use Rattle.ld_pages.specs.declared.cursor.Wrong.TheVariants as wrongs
use Rattle.ld_pages.specs.Words.{long_at, word_at}
use Rattle.ld_pages.specs.Entries.{data_offset, data_size, entry_at, is_event, is_malformed, is_padding, least_span, span, time_after}

-- what is wrong with the entry or the page at an offset
abbrev pub fault_step : ℕ → Wrong → Step
fault_step offset wrong = steps.Wrong (record { offset = offset; wrong = wrong })

-- the event that an entry at a cursor is
abbrev pub event_of : Cursor → Entry → Item
event_of c e = items.Event (record { at = c.position + data_offset e; size = data_size e; time = time_after e c.time })

-- behind an entry
abbrev pub behind : Cursor → Entry → Cursor
behind c e = record { next = c.next; end = c.end; position = c.position + span e; time = time_after e c.time }

-- at the end of the page's data
abbrev pub at_end : Cursor → Cursor
at_end c = record { next = c.next; end = c.end; position = c.end; time = c.time }

-- What an entry at a cursor says. It has to end within the page's data, and time doesn't go back.
abbrev pub said_by : Cursor → Entry → Step
said_by c e =
    if is_padding e then steps.Goes (at_end c)
    else if nat_lt (c.end - c.position) (least_span e) || nat_lt (c.end - c.position) (span e) then fault_step c.position wrongs.Cut
    else if is_malformed e then fault_step c.position wrongs.Length
    else if nat_le (2 ^ 64) (time_after e c.time) then fault_step c.position wrongs.Late
    else if nat_lt (time_after e c.time) c.time then fault_step c.position wrongs.Back
    else if is_event e then steps.Gives (event_of c e) (behind c e)
    else steps.Goes (behind c e)

abbrev pub entry_step : List ℕ → Cursor → Step
entry_step bytes c =
    if nat_lt (c.end - c.position) 4 then fault_step c.position wrongs.Cut
    else said_by c (entry_at bytes c.position)

-- a number of 4 or 8 bytes
abbrev pub sized_at : Layout → List ℕ → ℕ → ℕ
sized_at l bytes p = if l.word == 8 then long_at bytes p else word_at bytes p

-- the commit of the page at an offset: how many bytes of data it has, and two flags
abbrev pub commit_at : Layout → List ℕ → ℕ → ℕ
commit_at l bytes page = sized_at l bytes (page + l.commit)

abbrev pub data_len : ℕ → ℕ
data_len commit = commit % 2 ^ 30

-- Events were lost before this page's first.
abbrev pub is_lossy : ℕ → Bool
is_lossy commit = nat_le 2 (commit / 2 ^ 30)

-- How many they were stands behind the data.
abbrev pub is_counted : ℕ → Bool
is_counted commit = commit / 2 ^ 30 == 3

-- no flags but these two, the second only with the first, and no more data than the page has room for
abbrev pub is_commit : Layout → ℕ → Bool
is_commit l commit =
    nat_lt (commit / 2 ^ 30) 4 && not (commit / 2 ^ 30 == 1)
    && nat_le (l.data + data_len commit + (if is_counted commit then l.word else 0)) l.size

-- behind the head of the page at an offset
abbrev pub begun : Layout → List ℕ → ℕ → Cursor
begun l bytes page = record {
  next = page + l.size;
  end = page + l.data + data_len (commit_at l bytes page);
  position = page + l.data;
  time = long_at bytes (page + l.stamp);
}

-- how many events were lost before the page at an offset, where it tells
abbrev pub lost_count : Layout → List ℕ → ℕ → Option ℕ
lost_count l bytes page =
    if is_counted (commit_at l bytes page)
    then Some (sized_at l bytes (page + l.data + data_len (commit_at l bytes page)))
    else None

abbrev pub lost_at : Layout → List ℕ → ℕ → Item
lost_at l bytes page = items.Lost (record { time = long_at bytes (page + l.stamp); count = lost_count l bytes page })

-- what the head of a page says
abbrev pub head_step : Layout → List ℕ → Cursor → Step
head_step l bytes c =
    if not (is_commit l (commit_at l bytes c.next)) then fault_step c.next wrongs.Commit
    else if nat_lt (long_at bytes (c.next + l.stamp)) c.time then fault_step c.next wrongs.Back
    else if is_lossy (commit_at l bytes c.next) then steps.Gives (lost_at l bytes c.next) (begun l bytes c.next)
    else steps.Goes (begun l bytes c.next)

abbrev pub page_step : Layout → List ℕ → Cursor → Step
page_step l bytes c =
    if length bytes == c.next then steps.Ended
    else if nat_lt (length bytes - c.next) l.size then fault_step c.next wrongs.Short
    else head_step l bytes c

-- What stands at a cursor: an entry, or behind the last one of a page the next page.
abbrev pub step_at : Layout → List ℕ → Cursor → Step
step_at l bytes c = if c.position == c.end then page_step l bytes c else entry_step bytes c

-- Before the first page.
abbrev pub start : Cursor
start = record { next = 0; end = 0; position = 0; time = 0 }

-- where a cursor may stand, of so many bytes
pub record IsWithin (len : ℕ) (c : Cursor) : Type 0 where
  pub in_data : c.position ≤ c.end
  pub in_page : c.end ≤ c.next
  pub in_bytes : c.next ≤ len

-- how far a cursor stands in the bytes, and its time
pub record IsAfter (len : ℕ) (c d : Cursor) : Type 0 where
  pub within : IsWithin len d
  pub further : c.position < d.position
  pub later : c.time ≤ d.time

-- the time of an item
abbrev pub time_of : Item → ℕ
time_of (items.Event e) = e.time
time_of (items.Lost l) = l.time

-- The data of an event stand in so many bytes.
abbrev pub IsInside : ℕ → Item → Type 0
IsInside len (items.Event e) = e.at + e.size ≤ len
IsInside len (items.Lost l) = Unit {0}

-- A step goes on behind the cursor, no earlier, within so many bytes. An item has the time of the cursor behind it.
abbrev pub GoesOn : ℕ → Cursor → Step → Type 0
GoesOn len c steps.Ended = Unit {0}
GoesOn len c (steps.Wrong f) = Unit {0}
GoesOn len c (steps.Goes d) = IsAfter len c d
GoesOn len c (steps.Gives i d) = IsAfter len c d × IsInside len i × (time_of i ≡ d.time)
