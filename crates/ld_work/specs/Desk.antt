-- *Desk machine*, and what its feeders' tallies add up to.
use Rattle.std.specs.Prelude.{◌≡◌, ◌+◌, ◌⊎◌, true, false, List, ◌++◌, length}
use Rattle.std.specs.Prelude.{Result, Err, OnErr, OnOk}
use Rattle.std.specs.List.{sum_by}
use Rattle.ld_trace.specs.Sources.{PlainSource}
use Rattle.ld_book.specs.Book.{is_any_listed}
use Rattle.ld_book.specs.Totals.{event_count}
use Rattle.ld_work.specs.declared.feeder.Tally.{Tally}

-- the traces and the events of some sources
abbrev pub tally_of : List PlainSource → Tally
tally_of sources = record { traces = length sources; events = event_count sources }

-- both added up
abbrev pub plus : Tally → Tally → Tally
plus a b = record { traces = a.traces + b.traces; events = a.events + b.events }

-- the sum of all
abbrev pub sum_of : List Tally → Tally
sum_of tallies = record {
  traces = sum_by (λ t. t.traces) tallies;
  events = sum_by (λ t. t.events) tallies;
}

-- None of the numbers of the sources was listed. The list has the sources at its end, and the feeder's tally
-- has risen by so many traces and their events (none of one that is refused).
pub record IsSubmitted (sources list list' : List PlainSource) (tally tally' : Tally) : Type 0 where
  pub unlisted : is_any_listed list sources ≡ false
  pub listed : list' ≡ list ++ sources
  pub counted : tally' ≡ plus tally (tally_of sources)

-- What a call answers by which a feeder adds some sources. Answering Ok it submitted them. Else list and tally are
-- as before, and the answer is `repeated` where one of the numbers was listed, and `out_of_memory` where none was.
pub record IsAddition {A R : Type 0} (sources : List PlainSource) (repeated out_of_memory : R) (answer : Result A R)
    (list list' : List PlainSource) (tally tally' : Tally) : Type 0 where
  pub ok : OnOk answer (IsSubmitted sources list list' tally tally')
  pub err : OnErr answer (list' ≡ list)
  pub not_counted : OnErr answer (tally' ≡ tally)
  pub twice : is_any_listed list sources ≡ true → answer ≡ Err repeated
  pub memory : is_any_listed list sources ≡ false → OnErr answer (answer ≡ Err out_of_memory)

-- an event of the desk machine, by one feeder: it adds some sources, or nothing changes
abbrev pub IsEvent : List PlainSource → List PlainSource → Tally → Tally → Type 0
IsEvent list list' tally tally' =
    ((list' ≡ list) × (tally' ≡ tally)) ⊎ ((sources : List PlainSource) × IsSubmitted sources list list' tally tally')
