-- Where a line of some files stands, once they are one stream, one after another.
use Rattle.std.specs.Prelude.{◌≡◌, ◌<◌, ◌≤◌, ℕ, ◌+◌, List, [], length, map, take, slice_index_or}
use Rattle.std.specs.List.{sum_by}
use Rattle.ld_places.specs.declared.places.Part.{Part}
use Rattle.ld_places.specs.declared.places.Place.{Place}

-- a file by its name, and how many lines it has
pub record PlainFile : Type 0 where
  pub name : List ℕ
  pub lines : ℕ

-- a line of a file, counted from 1 there
pub record PlainPlace : Type 0 where
  pub file : List ℕ
  pub line : ℕ

-- the same without where the name lies in memory
abbrev pub plain_place : Place → PlainPlace
plain_place place = record { file = place.file.now; line = place.line }

-- what stands for the file at a place past the end
abbrev pub no_file : PlainFile
no_file = record { name = []; lines = 0 }

-- how many lines these files have together
abbrev pub line_sum : List PlainFile → ℕ
line_sum files = sum_by (λ file. file.lines) files

-- A line of all files, counted from 1 over them, is this line of the file at `at`: the files before have the
-- lines before.
pub record IsLineOf (files : List PlainFile) (line at own : ℕ) : Type 0 where
  pub within : at < length files
  pub first : 1 ≤ own
  pub last : own ≤ (slice_index_or files at no_file).lines
  pub behind : line ≡ line_sum (take at files) + own

-- a line of all files stands at this place
abbrev pub IsPlace : List PlainFile → ℕ → PlainPlace → Type 0
IsPlace files line place = (at : ℕ) × (IsLineOf files line at place.line × ((slice_index_or files at no_file).name ≡ place.file))

-- The rest is what the code keeps.

-- the file that a part is
abbrev pub file_of : Part → PlainFile
file_of part = record { name = part.file.now; lines = part.lines }

abbrev pub files_of : List Part → List PlainFile
files_of parts = map file_of parts

-- each part has the lines of those before it, and all have so many
pub record ArePlaces (parts : List Part) (lines : ℕ) : Type 0 where
  pub before : (k : ℕ) (d : Part) → k < length parts → (slice_index_or parts k d).before ≡ line_sum (take k (files_of parts))
  pub together : lines ≡ line_sum (files_of parts)
