-- The text of `list --dependency`.
use Rattle.std.specs.Prelude.{◌≡◌, ◌⊎◌, ◌++◌, [], All, List, ℕ, flat_map, length, map}
use Rattle.ld_trace.specs.Sources.{PlainSource}
use Rattle.ld_rules.specs.Dependency.{Dependency}
use Rattle.ld_places.specs.Places.{IsPlace, PlainFile, PlainPlace}
use Rattle.ld_places.specs.ShownPlaces.{IsShownAt}
use Rattle.ld_occurrences.specs.Named.{IsNamed}
use Rattle.ld_occurrences.specs.Occurrences.{AreOccurrences}
use Rattle.ld_occurrences.specs.Text.{head_line, occurrence_line}
use Rattle.ld_occurrences.specs.declared.rows.Occurrence.{Occurrence}

-- A line of these files is written as this place: where it is shown. If no file has it, it is written as it is, without a
-- name.
abbrev pub IsWrittenAt : List PlainFile → List PlainSource → ℕ → PlainPlace → Type 0
IsWrittenAt files sources line place =
    IsShownAt files sources line place
    ⊎ (((other : PlainPlace) → ¬ IsPlace files line other) × (place ≡ record { file = []; line = line }))

-- a row, and the place of the first occurrence there
pub record PlacedRow : Type 0 where
  pub row : Occurrence
  pub place : PlainPlace

-- the line of a row
abbrev pub row_line : PlacedRow → List ℕ
row_line placed = occurrence_line placed.row.lines placed.row.source.name.now placed.place.file placed.place.line

-- behind a text stand the lines of these rows, each with the place of its first occurrence
pub record AreWritten (files : List PlainFile) (in_order : List PlainSource) (rows : List Occurrence) (before after : List ℕ) : Type 0 where
  pub placed : List PlacedRow
  pub same : map (λ one. one.row) placed ≡ rows
  pub places : All (λ one. IsWrittenAt files in_order one.row.first one.place) placed
  pub lines : after ≡ before ++ flat_map row_line placed

-- The text is the list of the traces that show the dependency between the classes of these names: how many they are, and a
-- line for each, the shortest first, with the place of the first occurrence there. `in_order` are the traces in their order,
-- by which lines are shown.
pub record IsOccurrenceList (files : List PlainFile) (in_order sources : List PlainSource) (from to text : List ℕ) : Type 0 where
  pub what : Dependency
  pub held : IsNamed from what.from
  pub acquired : IsNamed to what.to
  pub rows : List Occurrence
  pub are : AreOccurrences sources what rows
  pub written : AreWritten files in_order rows (head_line what (length rows)) text
