-- The stream of the pieces of some traces.
use Rattle.std.proofs.Common.{◌≡◌, ◌∙◌, ◌+◌, ◌≤◌, ◌++◌, ℕ, suc, Bool, true, false, cond, List, [], ◌∷◌, length, map, filter, flat_map, None, All, refl, ap, sym, subst, arith}
use Rattle.std.specs.Prelude.{⊤}
use Rattle.std.proofs.Common.{append-nil, length-append}
use Rattle.std.proofs.lemmas.Grind.{flat_map-append}
use Rattle.std.proofs.lemmas.List.Elements.{All-append, All-cons, All-nil}
use Rattle.ld_trace.specs.declared.source.TheConstants.{LONGEST_STREAM, MOST_TRACES}
use Rattle.ld_trace.specs.Sources.{PlainSource, sources, stream_fault}
use Rattle.ld_rules.specs.Outcome.{outcome}
use Rattle.ld_reduce.specs.OfBook.Totals.{is_refused}
use Rattle.ld_reduce.specs.Written.{IsTrace, counted_anew, trace_text, written}
use Rattle.ld_reduce.proofs.WrittenLemmas.{sources-written, written-sound}
use Rattle.ld_cut.specs.Alike.{AreAlike, AreRead, HaveSame, Whole, rejected, whole}
use Rattle.ld_cut.specs.Cut.{AreCut, IsCut, IsCutOf, all_pieces}
use Rattle.ld_cut.specs.Pieces.{IsCutInto}
use Rattle.ld_cut.proofs.SameLemmas.{append-rejected, append-same, counted-rejected, counted-same, own-same, then-same}

-- of traces that are read none is rejected
none-rejected : (all : List PlainSource) → AreRead all → rejected all ≡ []
none-rejected [] read = refl
none-rejected (s ∷ all) read =
    let first : is_refused (outcome s) ≡ false = read 0 s (omega arith) in
    ap (λ (b : Bool). map whole (cond b (s ∷ filter (λ source. is_refused (outcome source)) all) (filter (λ source. is_refused (outcome source)) all))) first
    ∙ none-rejected all (λ k d within. read (suc k) d (omega arith))

-- a trace is cut into pieces that show the same together
pub cut-alike : (n : ℕ) (source : PlainSource) (pieces : List PlainSource) → AreAlike (source ∷ []) pieces → IsCutInto n [] source.bytes (map (λ piece. piece.bytes) pieces) → IsCut n source pieces
cut-alike n source pieces alike cut = record {
  traces = alike.traces;
  cut = cut;
  same = alike.same;
  rejected_same = none-rejected (source ∷ []) alike.read ∙ sym (none-rejected pieces alike.others_read);
}

-- or stays as it is
pub cut-whole : (n : ℕ) (source : PlainSource) → IsTrace source → IsCut n source (source ∷ [])
cut-whole n source trace = record {
  traces = All-cons IsTrace source [] trace (All-nil IsTrace);
  cut = record { front = []; is = refl; carried = λ task. refl };
  same = own-same (source ∷ []);
  rejected_same = refl;
}

-- one trace more
pub cut-more : (n : ℕ) (all : List PlainSource) (pieces : List (List PlainSource)) (source : PlainSource) (own : List PlainSource) → AreCut n all pieces → IsCut n source own → AreCut n (all ++ source ∷ []) (pieces ++ own ∷ [])
cut-more n [] [] source own are is = (is, tt)
cut-more n [] (ps ∷ pieces) source own are is = absurd are
cut-more n (s ∷ all) [] source own are is = absurd are
cut-more n (s ∷ all) (ps ∷ pieces) source own are is = (are.0, cut-more n all pieces source own are.1 is)

pub pieces-more : (pieces : List (List PlainSource)) (own : List PlainSource) → all_pieces (pieces ++ own ∷ []) ≡ all_pieces pieces ++ own
pieces-more pieces own = flat_map-append (λ (o : List PlainSource). o) pieces (own ∷ []) ∙ ap (λ o. all_pieces pieces ++ o) (append-nil own)

pub written-more : (pieces : List (List PlainSource)) (own : List PlainSource) → written (all_pieces (pieces ++ own ∷ [])) ≡ written (all_pieces pieces) ++ written own
written-more pieces own = ap written (pieces-more pieces own) ∙ flat_map-append trace_text (all_pieces pieces) own

pub written-one : (source : PlainSource) → written (source ∷ []) ≡ trace_text source
written-one source = append-nil (trace_text source)

all-traces : (n : ℕ) (all : List PlainSource) (pieces : List (List PlainSource)) → AreCut n all pieces → All IsTrace (all_pieces pieces)
all-traces n [] [] are = All-nil IsTrace
all-traces n [] (ps ∷ pieces) are = absurd are
all-traces n (s ∷ all) [] are = absurd are
all-traces n (s ∷ all) (ps ∷ pieces) are = All-append IsTrace ps (all_pieces pieces) are.0.traces (all-traces n all pieces are.1)

all-same : (n : ℕ) (all : List PlainSource) (pieces : List (List PlainSource)) → AreCut n all pieces → HaveSame all (all_pieces pieces)
all-same n [] [] are = own-same []
all-same n [] (ps ∷ pieces) are = absurd are
all-same n (s ∷ all) [] are = absurd are
all-same n (s ∷ all) (ps ∷ pieces) are = append-same (s ∷ []) ps all (all_pieces pieces) are.0.same (all-same n all pieces are.1)

all-rejected : (n : ℕ) (all : List PlainSource) (pieces : List (List PlainSource)) → AreCut n all pieces → rejected all ≡ rejected (all_pieces pieces)
all-rejected n [] [] are = refl
all-rejected n [] (ps ∷ pieces) are = absurd are
all-rejected n (s ∷ all) [] are = absurd are
all-rejected n (s ∷ all) (ps ∷ pieces) are =
    append-rejected (s ∷ []) all
    ∙ (λ i. are.0.rejected_same i ++ all-rejected n all pieces are.1 i)
    ∙ sym (append-rejected ps (all_pieces pieces))

pub cut-of : (n : ℕ) (all : List PlainSource) (pieces : List (List PlainSource)) (text : List ℕ) → AreCut n all pieces → text ≡ written (all_pieces pieces)
    → (length all ≤ MOST_TRACES → length (all_pieces pieces) ≤ MOST_TRACES) → IsCutOf n all text
cut-of n all pieces text are is few =
    let traces = all-traces n all pieces are in
    let cut : sources text ≡ counted_anew (all_pieces pieces) = ap sources is ∙ sources-written (all_pieces pieces) traces in
    record {
      pieces = pieces;
      are = are;
      text_is = is;
      sources_are = cut;
      sound = λ given short. ap stream_fault is ∙ written-sound (all_pieces pieces) traces (few given) (omega (arith, short, ap length is));
      same = subst (HaveSame all) (sym cut) (then-same all (all_pieces pieces) (counted_anew (all_pieces pieces)) (all-same n all pieces are) (counted-same (all_pieces pieces)));
      rejected_same = all-rejected n all pieces are ∙ counted-rejected (all_pieces pieces) ∙ ap rejected (sym cut);
    }

-- there is a piece
pub cut-some : (n : ℕ) (source : PlainSource) (pieces : List PlainSource) → IsCut n source pieces → 1 ≤ length pieces
cut-some n source [] is = absurd is.cut
cut-some n source (piece ∷ pieces) is = omega arith

pub length-more : (pieces : List (List PlainSource)) (own : List PlainSource) → length (all_pieces (pieces ++ own ∷ [])) ≡ length (all_pieces pieces) + length own
length-more pieces own = ap length (pieces-more pieces own) ∙ length-append (all_pieces pieces) own
