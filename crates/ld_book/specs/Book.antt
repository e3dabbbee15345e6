-- What a book shows to its callers.
use Rattle.std.specs.Prelude.{ℕ, Bool, ◌==◌, List}
use Rattle.std.specs.List.{list_any}
use Rattle.ld_trace.specs.Sources.{PlainSource}

-- one of the sources has this number
abbrev pub is_listed : List PlainSource → ℕ → Bool
is_listed sources number = list_any (λ source. number == source.number) sources

-- one of the sources has the number of one of these
abbrev pub is_any_listed : List PlainSource → List PlainSource → Bool
is_any_listed sources these = list_any (λ source. is_listed sources source.number) these
