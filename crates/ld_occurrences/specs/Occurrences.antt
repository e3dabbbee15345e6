-- The traces that show a dependency.
use Rattle.std.specs.Prelude.{◌≡◌, ◌⊎◌, ◌<◌, ◌≤◌, ℕ, List, Option, AllPairs, filter_map, length, map, option_map}
use Rattle.std.specs.List.Sorted.{IsPermutation}
use Rattle.ld_trace.specs.Lines.{lines}
use Rattle.ld_trace.specs.Sources.{PlainSource, plain}
use Rattle.ld_rules.specs.Dependency.{Dependency, least_line, same_dependency}
use Rattle.ld_rules.specs.Union.{dependencies_of}
use Rattle.ld_rules.specs.declared.outcome.Listed.{Listed}
use Rattle.ld_occurrences.specs.declared.rows.Occurrence.{Occurrence}

-- a trace, how many lines stand behind its header, and the first of them at which a dependency stands
pub record PlainOccurrence : Type 0 where
  pub source : PlainSource
  pub lines : ℕ
  pub first : ℕ

-- the same without where the trace lies in memory
abbrev pub plain_occurrence : Occurrence → PlainOccurrence
plain_occurrence row = record { source = plain row.source; lines = row.lines; first = row.first }

-- What a trace shows of a dependency: the least line at which it stands there. A refused trace has no dependencies.
abbrev pub occurrence_in : Dependency → PlainSource → Option PlainOccurrence
occurrence_in what source =
    option_map (λ first. record { source = source; lines = length (lines source.bytes); first = first })
    (least_line same_dependency (dependencies_of source) what)

-- a trace stands before another: it has fewer lines, or as many and comes first in the stream
abbrev pub IsShorter : Occurrence → Occurrence → Type 0
IsShorter a b = (a.lines < b.lines) ⊎ ((a.lines ≡ b.lines) × (a.source.number ≤ b.source.number))

-- The rows are what these traces show of the dependency, one row for each trace that shows it, the shortest trace first.
pub record AreOccurrences (sources : List PlainSource) (what : Dependency) (rows : List Occurrence) : Type 0 where
  pub each : IsPermutation (filter_map (occurrence_in what) sources) (map plain_occurrence rows)
  pub ordered : AllPairs IsShorter rows

-- the traces that are listed
abbrev pub traces_of : List Listed → List PlainSource
traces_of listed = map (λ trace. plain trace.source) listed
