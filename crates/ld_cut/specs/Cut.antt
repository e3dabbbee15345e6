-- What a stream is whose traces are cut into pieces.
use Rattle.std.specs.Prelude.{◌≡◌, ◌≤◌, ℕ, List, [], ◌∷◌, length, map, flat_map, All, None, ⊤}
use Rattle.ld_trace.specs.declared.source.TheConstants.{LONGEST_STREAM, MOST_TRACES}
use Rattle.ld_trace.specs.Sources.{PlainSource, sources, stream_fault}
use Rattle.ld_reduce.specs.Written.{IsTrace, counted_anew, written}
use Rattle.ld_cut.specs.Alike.{HaveSame, rejected}
use Rattle.ld_cut.specs.Pieces.{IsCutInto}

-- A trace is cut into these pieces, each n lines long: they have its lines, together show what it shows, and none of them is
-- rejected; a trace that is rejected stays one piece.
pub record IsCut (n : ℕ) (source : PlainSource) (pieces : List PlainSource) : Type 0 where
  pub traces : All IsTrace pieces
  pub cut : IsCutInto n [] source.bytes (map (λ piece. piece.bytes) pieces)
  pub same : HaveSame (source ∷ []) pieces
  pub rejected_same : rejected (source ∷ []) ≡ rejected pieces

-- each of these traces is cut into those pieces at the same place
abbrev pub AreCut : ℕ → List PlainSource → List (List PlainSource) → Type 0
AreCut n [] [] = ⊤
AreCut n [] (pieces ∷ others) = ⊥
AreCut n (source ∷ sources) [] = ⊥
AreCut n (source ∷ sources) (pieces ∷ others) = IsCut n source pieces × AreCut n sources others

-- the pieces of all traces, one behind another
abbrev pub all_pieces : List (List PlainSource) → List PlainSource
all_pieces pieces = flat_map (λ own. own) pieces

-- The text is the stream of the pieces of these traces. Where it isn't too long it has no fault. It has the classes, the
-- dependencies and the usage bits of the traces, and just their rejected ones.
pub record IsCutOf (n : ℕ) (all : List PlainSource) (text : List ℕ) : Type 0 where
  pub pieces : List (List PlainSource)
  pub are : AreCut n all pieces
  pub text_is : text ≡ written (all_pieces pieces)
  pub sources_are : sources text ≡ counted_anew (all_pieces pieces)
  pub sound : length all ≤ MOST_TRACES → length text ≤ LONGEST_STREAM → stream_fault text ≡ None
  pub same : HaveSame all (sources text)
  pub rejected_same : rejected all ≡ rejected (sources text)
