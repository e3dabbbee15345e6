-- Where the headers of traces stand in their files.
use Rattle.std.specs.Prelude.{◌≡◌, ◌⊎◌, ℕ, ◌-◌, Bool, true, false, List, []}
use Rattle.std.specs.List.{AllZip}
use Rattle.ld_trace.specs.Sources.{PlainSource}
use Rattle.ld_origin.specs.Origin.{PlainHome}
use Rattle.ld_places.specs.Places.{IsPlace, PlainFile, PlainPlace}

abbrev pub place_of : PlainHome → PlainPlace
place_of home = record { file = home.file; line = home.line }

-- a line of all files stands there, or in no file
abbrev pub IsHome : List PlainFile → ℕ → PlainHome → Type 0
IsHome files line home = IsPlace files line (place_of home) ⊎ ((place : PlainPlace) → ¬ IsPlace files line place)

-- one for each trace: where its header stands, which is the line before its first one
abbrev pub AreHomes : List PlainFile → List PlainSource → List PlainHome → Type 0
AreHomes files sources homes = AllZip (λ source home. IsHome files (source.first_line - 1) home) sources homes

-- those, if they are wanted, else none
pub record AreWanted (wanted : Bool) (files : List PlainFile) (sources : List PlainSource) (homes : List PlainHome) : Type 0 where
  pub some : wanted ≡ true → AreHomes files sources homes
  pub none : wanted ≡ false → homes ≡ []
