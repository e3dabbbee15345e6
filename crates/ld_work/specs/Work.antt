-- What it means that a book lists each source.
use Rattle.std.specs.Prelude.{List}
use Rattle.std.specs.List.Sorted.{IsPermutation}
use Rattle.ld_trace.specs.Sources.{PlainSource}

-- Each source is listed exactly once, as it stands, and nothing else is listed: the list is that of
-- the sources, in some order.
abbrev pub ListsEachOnce : List PlainSource → List PlainSource → Type 0
ListsEachOnce sources listed = IsPermutation sources listed
