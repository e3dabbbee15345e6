-- What the list of a book keeps true of its fields.
use Rattle.std.specs.Prelude.{◌≡◌, ℕ, ◌+◌, ◌<◌, ◌≤◌, List, false, length, map, slice_index_or, All, nat_eq, vec_len, vec_capacity}
use Rattle.std.specs.List.{IsDistinct}
use Rattle.ld_trace.specs.declared.source.TheConstants.{MOST_TRACES}
use Rattle.ld_trace.specs.Sources.{Fits, PlainSource, plain}
use Rattle.ld_book.specs.Book.{is_listed}
use Rattle.ld_book.specs.declared.listing.Listing.TheInside.{Inside}
use Rattle.ld_batch.specs.Batch.{AreOutcomes, sources_of}
use Rattle.ld_book.specs.Totals.{event_count, refused_count}

-- the traces in order of arrival, and for how many further ones there is memory
pub record PlainListing : Type 0 where
  pub sources : List PlainSource
  pub spare : ℕ

-- what is seen of the fields
abbrev pub listing_of : Inside → PlainListing
listing_of l = record { sources = sources_of l.traces.items; spare = l.spare }

-- what holds of the fields of every list
pub record IsListing (l : Inside) : Type 0 where
  pub outcomes : AreOutcomes l.traces.items
  pub fit : All (λ t. Fits (plain t.source)) l.traces.items
  pub distinct : IsDistinct nat_eq (map (λ t. t.source.number) l.traces.items)
  pub marks : (number : ℕ) → slice_index_or l.marks.items number false ≡ is_listed (sources_of l.traces.items) number
  pub events : l.events ≡ event_count (sources_of l.traces.items)
  pub refused : l.refused ≡ refused_count (sources_of l.traces.items)
  pub room_traces : vec_len l.traces + l.spare ≤ vec_capacity l.traces
  pub most_marks : length l.marks.items ≤ MOST_TRACES
  pub room_marks : 0 < l.spare → length l.marks.items ≡ MOST_TRACES
