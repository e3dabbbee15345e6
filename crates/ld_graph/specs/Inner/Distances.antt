-- How a distance is kept. No public contract cites this file.
use Rattle.std.specs.Prelude.{◌≡◌, ℕ, zero, suc, Option, unwrap_or, refl}
use Rattle.ld_graph.specs.declared.distance.Distance.TheInside.{Inside}
use Rattle.ld_graph.specs.Inner.Repairs.{told}

-- what is kept of a distance, 0 being none
abbrev pub kept_of : Option ℕ → Inside
kept_of o = record { edges = unwrap_or o 0 }

again_of : (n : ℕ) → kept_of (told n) ≡ record { edges = n }
again_of zero = refl
again_of (suc n) = refl

-- it is what the distance tells
pub again : (d : Inside) → kept_of (told d.edges) ≡ d
again d = again_of d.edges
