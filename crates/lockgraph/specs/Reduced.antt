-- What `reduce` writes of some traces.
use Rattle.std.specs.Prelude.{◌≡◌, ◌⊎◌, ◌||◌, ◌==◌, ℕ, Bool, true, List, [], map, if◌then◌else◌}
use Rattle.ld_trace.specs.Sources.{PlainSource, sources}
use Rattle.ld_check.specs.OfReport.OfBook.Totals.{refused_count}
use Rattle.ld_check.specs.OfReport.declared.verdict.Verdict.{Verdict}
use Rattle.ld_check.specs.OfReport.declared.verdict.Verdict.TheVariants.{Clean, Refused}
use Rattle.ld_origin.specs.Origin.{PlainHome, marked}
use Rattle.ld_reduce.specs.Reduced.{IsReduced}
use Rattle.ld_reduce.specs.Reduction.{IsReductionOf}
use Rattle.ld_places.specs.Places.{PlainFile}
use Rattle.lockgraph.specs.declared.reduce.Keeping.{Keeping}
use Rattle.ld_files.specs.Homes.{AreWanted}

-- `Refused` where a refused trace is left out, else `Clean`
abbrev pub verdict_of_reduced : (keep_refused : Bool) (refused : ℕ) → Verdict
verdict_of_reduced keep_refused refused = if keep_refused || refused == 0 then Clean else Refused

-- the text is the reduced stream of these traces with these homes, and the verdict says whether a refused one was left out
pub record IsReducedWith (keep_refused : Bool) (homes : List PlainHome) (all : List PlainSource) (text : List ℕ) (verdict : Verdict) : Type 0 where
  pub reduced : IsReductionOf keep_refused homes all text
  pub verdict_is : verdict ≡ verdict_of_reduced keep_refused (refused_count all)

-- The same, where homes are those of the traces in these files, if they are wanted. The text stays as it is, byte for
-- byte, if it is reduced again: without homes; or, if they were wanted, with whatever homes.
pub record IsReducedOf (keeping : Keeping) (files : List PlainFile) (all : List PlainSource) (text : List ℕ) (verdict : Verdict) : Type 0 where
  pub homes : List PlainHome
  pub are : AreWanted keeping.from files all homes
  pub written : IsReducedWith keeping.refused homes all text verdict
  pub again : (others : List PlainHome) (more : List ℕ) → (others ≡ []) ⊎ (keeping.from ≡ true)
      → IsReduced keeping.refused (map (marked others) (sources text)) more → more ≡ text
