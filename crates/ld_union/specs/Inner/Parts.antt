-- How the numbers of walks lie in one list. No public contract cites this file.
use Rattle.std.specs.Prelude.{ℕ, ◌+◌, ◌≤◌, List, take, drop}
use Rattle.ld_union.specs.declared.findings.forbidden_rows.Part.{Part}
use Rattle.ld_union.specs.Inner.Walks.{NumberedWalk}

-- the walk of a part
abbrev pub part_of : List ℕ → Part → NumberedWalk
part_of numbers part = record { from = part.from; to = part.to; via = take part.len (drop part.start numbers) }

-- the part lies within so many numbers
abbrev pub IsPartOf : ℕ → Part → Type 0
IsPartOf count part = part.start + part.len ≤ count
