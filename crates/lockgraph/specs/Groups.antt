-- Files that are reduced in groups: what is left of a group stands before the next files.
use Rattle.std.specs.Prelude.{◌≡◌, ◌⊎◌, ◌==◌, ◌&&◌, ◌||◌, ℕ, ◌-◌, Bool, true, false, not, List, [], ◌∷◌, ◌++◌, All, None, length, map, if◌then◌else◌}
use Rattle.ld_trace.specs.Lines.{lines}
use Rattle.ld_trace.specs.Sources.{PlainSource, is_header, sources, stream_fault}
use Rattle.ld_check.specs.OfReport.OfBook.Totals.{refused_count}
use Rattle.ld_origin.specs.Origin.{PlainHome, marked, plain_home}
use Rattle.ld_reduce.specs.Reduced.{IsReduced}
use Rattle.ld_reduce.specs.Reduction.{IsReductionOf}
use Rattle.ld_reduce.specs.Written.{IsTrace}
use Rattle.ld_check.specs.OfReport.declared.verdict.Verdict.{Verdict}
use Rattle.ld_check.specs.OfReport.declared.verdict.Verdict.TheVariants.{Clean, Refused}
use Rattle.lockgraph.specs.declared.groups.Group.{Group}
use Rattle.lockgraph.specs.declared.reduce.Keeping.{Keeping}
use Rattle.lockgraph.specs.Reduced.{IsReducedWith}

-- a stream, and where the headers of its traces stand
pub record Homed : Type 0 where
  pub bytes : List ℕ
  pub homes : List PlainHome

-- one behind another
abbrev pub behind : Homed → Homed → Homed
behind front more = record { bytes = front.bytes ++ more.bytes; homes = front.homes ++ more.homes }

-- where the header of a trace of this file stands
abbrev pub home_in : List ℕ → PlainSource → PlainHome
home_in name source = record { file = name; line = source.first_line - 1 }

-- a file of this name, with the homes of its traces, if they are wanted
abbrev pub file_read : (from : Bool) (name bytes : List ℕ) → Homed
file_read from name bytes = record { bytes = bytes; homes = if from then map (home_in name) (sources bytes) else [] }

-- the traces of a stream, each of which says where it comes from
abbrev pub traces_of : Homed → List PlainSource
traces_of stream = map (marked stream.homes) (sources stream.bytes)

-- the homes of all traces are known, or of none
abbrev pub AreHomed : Bool → Homed → Type 0
AreHomed true stream = length stream.homes ≡ length (sources stream.bytes)
AreHomed false stream = stream.homes ≡ []

-- there is no line, or the last one has its LF
abbrev pub EndsLine : List ℕ → Type 0
EndsLine bytes = (bytes ≡ []) ⊎ ((front : List ℕ) × (bytes ≡ front ++ 10 ∷ []))

-- the first line is a header
abbrev pub StartsWithHeader : List ℕ → Type 0
StartsWithHeader bytes = (line : List ℕ) × ((others : List (List ℕ)) × ((lines bytes ≡ line ∷ others) × (is_header line ≡ true)))

-- no home follows where none is wanted
abbrev pub MayFollow : Bool → List PlainHome → Type 0
MayFollow from homes = from ≡ false → homes ≡ []

-- A group stands for all that was read: whatever follows, both are reduced to the same bytes. `lost` says that a refused trace
-- of all is missing in the group.
pub record StandsFor (keeping : Keeping) (lost : Bool) (group all : Homed) : Type 0 where
  pub left : (more : Homed) (again : List ℕ) → MayFollow keeping.from more.homes → All IsTrace (sources (group.bytes ++ more.bytes))
      → IsReduced keeping.refused (traces_of (behind group more)) again → IsReduced keeping.refused (traces_of (behind all more)) again
  pub traces : (more : List ℕ) → All IsTrace (sources (group.bytes ++ more)) → All IsTrace (sources (all.bytes ++ more))
  pub refused : keeping.refused ≡ false → (more : List ℕ)
      → (refused_count (sources (all.bytes ++ more)) == 0) ≡ (not lost && (refused_count (sources (group.bytes ++ more)) == 0))
  pub homed : AreHomed keeping.from group
  pub all_homed : AreHomed keeping.from all
  pub ends : EndsLine group.bytes
  pub all_ends : EndsLine all.bytes

-- the same of a group as it lies in memory
abbrev pub homed_of : Group → Homed
homed_of group = record { bytes = group.bytes.items; homes = map plain_home group.homes.items }

abbrev pub Stands : Keeping → Group → Homed → Type 0
Stands keeping group all = StandsFor keeping group.lost (homed_of group) all

-- a group was replaced by what is left of it
pub record IsClosed (keeping : Keeping) (before after : Group) : Type 0 where
  pub sound : stream_fault before.bytes.items ≡ None
  pub left : IsReductionOf keeping.refused (map plain_home before.homes.items) (sources before.bytes.items) after.bytes.items
  pub homed : AreHomed keeping.from (homed_of after)
  pub lost : after.lost ≡ (before.lost || not (refused_count (sources before.bytes.items) == 0))

-- a file was put behind a group
pub record BothFollow (before : Group) (bytes : List ℕ) (homes : List PlainHome) (after : Group) : Type 0 where
  pub bytes_are : after.bytes.items ≡ before.bytes.items ++ bytes
  pub homes_are : map plain_home after.homes.items ≡ map plain_home before.homes.items ++ homes
  pub lost_is : after.lost ≡ before.lost

-- `Refused` where a refused trace is left out, now or before, else `Clean`
abbrev pub verdict_of_lost : (keep_refused lost : Bool) (refused : ℕ) → Verdict
verdict_of_lost keep_refused lost refused = if keep_refused || (not lost && refused == 0) then Clean else Refused

-- The text is what all was reduced to, and the verdict says whether a refused trace was left out. Reduced again, it stays as
-- it is, byte for byte: without homes; or, if they were wanted, with whatever homes.
pub record IsReducedAll (keeping : Keeping) (all : Homed) (text : List ℕ) (verdict : Verdict) : Type 0 where
  pub written : IsReducedWith keeping.refused all.homes (sources all.bytes) text verdict
  pub again : (others : List PlainHome) (more : List ℕ) → (others ≡ []) ⊎ (keeping.from ≡ true)
      → IsReduced keeping.refused (map (marked others) (sources text)) more → more ≡ text
