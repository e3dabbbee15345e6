-- What the reduced stream has of what the traces of a book show.
use Rattle.std.specs.Prelude.{◌≡◌, ◌≤◌, ◌↔◌, ◌==◌, ℕ, Bool, false, List, ◌++◌, length, map, Option, None, Some}
use Rattle.ld_trace.specs.declared.source.TheConstants.{LONGEST_STREAM, MOST_TRACES}
use Rattle.ld_trace.specs.Sources.{PlainSource, sources, stream_fault}
use Rattle.ld_rules.specs.declared.outcome.Witness.{Witness}
use Rattle.ld_book.specs.Violations.{IsViolation, Violation}
use Rattle.ld_reduce.specs.Left.{IsLeft}
use Rattle.ld_origin.specs.Origin.{PlainHome, marked}
use Rattle.ld_reduce.specs.Reduced.{AreNeeded, AreSaid, IsReduced, IsSettled}
use Rattle.ld_reduce.specs.Same.{HaveSameUnion, HaveSameWitnesses}

-- it was first seen in the trace of this number
abbrev pub is_in : ℕ → Option Witness → Bool
is_in number None = false
is_in number (Some first) = number == first.number

-- the traces have the same violations
abbrev pub HaveSameViolations : List PlainSource → List PlainSource → Type 0
HaveSameViolations these others = (violation : Violation) → IsViolation these violation ↔ IsViolation others violation

-- joined with the reduced stream of another, the text has the violations that these traces and those of the
-- other stream have together
abbrev pub IsJoinable : List PlainSource → List ℕ → Type 0
IsJoinable all text =
    (keep_refused : Bool) (homes : List PlainHome) (other rest : List ℕ) → stream_fault other ≡ None
    → IsReduced keep_refused (map (marked homes) (sources other)) rest
    → HaveSameViolations (all ++ sources other) (sources (text ++ rest))

-- The text is the reduced stream of these traces, each of which says where it comes from: as it did, or else by its home,
-- if it has one. That changes none of the lines at which something is first seen. Where the text isn't too long it has
-- no fault; it has the same union, in which each witness is at the same line of a trace of the same label that comes
-- from the same place, and the same violations, also joined with others; none of its traces could be left out; it reads
-- back where traces come from; and it stays as it is. With another stream behind it, it is reduced to the same bytes as the
-- traces with those of that stream behind them.
pub record IsReductionOf (keep_refused : Bool) (homes : List PlainHome) (all : List PlainSource) (text : List ℕ) : Type 0 where
  pub reduced : IsReduced keep_refused (map (marked homes) all) text
  pub same : HaveSameWitnesses all (map (marked homes) all)
  pub sound : length all ≤ MOST_TRACES → length text ≤ LONGEST_STREAM → stream_fault text ≡ None
  pub union : HaveSameUnion (map (marked homes) all) (sources text)
  pub violations : HaveSameViolations all (sources text)
  pub joined : IsJoinable all text
  pub left : IsLeft keep_refused homes all text
  pub needed : AreNeeded keep_refused (sources text)
  pub said : AreSaid homes all
  pub settled : IsSettled keep_refused homes all text
