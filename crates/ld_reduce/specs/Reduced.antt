-- What the reduced stream of some traces is.
use Rattle.std.specs.Prelude.{◌≡◌, ◌<◌, ◌⊎◌, Bool, List, [], ℕ, All, IsTrue, None, Some, length, map, slice_get}
use Rattle.ld_trace.specs.Sources.{PlainSource, sources}
use Rattle.ld_rules.specs.Outcome.{outcome}
use Rattle.ld_book.specs.Totals.{is_refused}
use Rattle.ld_reduce.specs.Kept.{AreKept, IsFirst}
use Rattle.ld_origin.specs.Origin.{PlainHome, marked, origin_from, origin_of}
use Rattle.ld_reduce.specs.Written.{counted_anew, written}

-- The text is the stream of the traces that are kept of these, and is cut into just those, counted anew.
pub record IsReduced (refused : Bool) (all : List PlainSource) (text : List ℕ) : Type 0 where
  pub kept : List PlainSource
  pub are : AreKept refused all kept
  pub text_is : text ≡ written kept
  pub cut : sources text ≡ counted_anew kept

-- Without any one of these traces something would be first seen elsewhere, or nowhere; where refused ones
-- are kept, but for those.
abbrev pub AreNeeded : Bool → List PlainSource → Type 0
AreNeeded refused all = All (λ source. IsFirst all source.number ⊎ (IsTrue refused × IsTrue (is_refused (outcome source)))) all

-- each of these traces has its home
abbrev pub HaveHomes : List PlainHome → List PlainSource → Type 0
HaveHomes homes all = All (λ source. source.number < length homes) all

-- a trace that doesn't say where it comes from says it once it is marked: just its home
abbrev pub AreSaid : List PlainHome → List PlainSource → Type 0
AreSaid homes all =
    All (λ source. (home : PlainHome) → slice_get homes source.number ≡ Some home → origin_of source.bytes ≡ None
    → origin_of (marked homes source).bytes ≡ Some (origin_from home)) all

-- Reduced again the text is the same, byte for byte: where no trace is to say where it comes from, or whatever their
-- homes are then, if each trace had a home here.
abbrev pub IsSettled : Bool → List PlainHome → List PlainSource → List ℕ → Type 0
IsSettled keep_refused homes all text =
    (others : List PlainHome) (again : List ℕ) → (others ≡ []) ⊎ HaveHomes homes all
    → IsReduced keep_refused (map (marked others) (sources text)) again → again ≡ text
