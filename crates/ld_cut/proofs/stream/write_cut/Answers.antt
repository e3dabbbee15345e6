-- The trace whole, or pieces that show the same.
use Rattle.std.proofs.Common.{◌≡◌, ◌∙◌, ◌≤◌, ◌+◌, ◌-◌, ◌++◌, ◌∷◌, [], Bool, true, false, List, ℕ, length, map, ap, arith, subst, sym}
use Rattle.std.specs.Bool.{OnTrue}
use Rattle.std.proofs.lemmas.List.{length-map}
use Rattle.std.proofs.lemmas.Simd.{map-map}
use Rattle.ld_trace.specs.declared.source.Source.{Source}
use Rattle.ld_trace.specs.Sources.{PlainSource, plain}
use Rattle.ld_reduce.specs.Written.{written}
use Rattle.ld_cut.specs.declared.pieces.Piece.{Piece}
use Rattle.ld_cut.specs.Alike.{AreAlike}
use Rattle.ld_cut.specs.Pieces.{IsCutInto}
use Rattle.ld_cut.proofs.CutLemmas.{cut-alike, cut-whole, written-one}
use Rattle.ld_cut.proofs.stream.write_cut.Goals as goal

from_true : {P : Type 0} (b : Bool) → b ≡ true → OnTrue b P → P
from_true true is h = h
from_true false is h = absurd (cc)

pub returns-then-len-lt2 : goal.returns-then-len-lt2
returns-then-len-lt2 c =
    let source = plain c.args.source.now in
    (source ∷ [], cut-whole c.args.lines source c.requires.trace, c.in_ok-write_trace.ensures ∙ ap (λ o. c.args.text.now.items ++ o) (sym (written-one source)), omega arith)

pub returns-then-not-alike : goal.returns-then-not-alike
returns-then-not-alike c =
    let source = plain c.args.source.now in
    (source ∷ [], cut-whole c.args.lines source c.requires.trace, c.in_ok-write_trace-2.ensures ∙ ap (λ o. c.args.text.now.items ++ o) (sym (written-one source)), omega arith)

pub returns : goal.returns
returns c =
    let source = plain c.args.source.now in
    let sources = c.in_ok-sources.sources.items in
    let all : List PlainSource = map plain sources in
    let same : AreAlike (source ∷ []) all =
    subst (λ ss. AreAlike (source ∷ []) (map plain ss)) c.deref-2.ensures.value (from_true c.in_ok-alike.alike c.if-not-alike.false c.in_ok-alike.ensures) in
    let bytes : map (λ (p : PlainSource). p.bytes) all ≡ map (λ (p : Piece). p.bytes.items) c.in_ok-pieces.pieces.items =
    map-map (λ (p : PlainSource). p.bytes) plain sources ∙ c.in_ok-sources.ensures.bytes ∙ ap (map (λ (p : Piece). p.bytes.items)) c.deref.ensures.value in
    let cut : IsCutInto c.args.lines [] source.bytes (map (λ (p : PlainSource). p.bytes) all) = subst (IsCutInto c.args.lines [] source.bytes) (sym bytes) c.in_ok-pieces.ensures.cut in
    let many : length all ≡ length sources = length-map sources plain in
    let counted : length sources ≡ length c.in_ok-pieces.pieces.items = c.in_ok-sources.ensures.count ∙ ap length c.deref.ensures.value in
    let few = c.in_ok-pieces.ensures.few in
    let two = c.if-len-lt2.false in
    let first = c.len.ensures in
    let second = c.len-more.ensures in (
      all,
      cut-alike c.args.lines source all same cut,
      c.in_ok-write_traces.ensures ∙ ap (λ (ss : List Source). c.args.text.now.items ++ written (map plain ss)) c.deref-3.ensures.value,
      omega arith,
    )
