-- A trace more is cut, and all of them.
use Rattle.std.proofs.Common.{◌≡◌, ◌∙◌, ◌<◌, ◌≤◌, ◌+◌, ◌-◌, ◌++◌, ◌∷◌, [], List, ℕ, length, map, take, get_or, ap, arith, subst, sym}
use Rattle.std.proofs.Math.ListN.{get_or-map}
use Rattle.std.proofs.lemmas.List.{length-map, map-append, take_all, take_more}
use Rattle.ld_trace.specs.declared.source.Source.{Source}
use Rattle.ld_trace.specs.declared.source.TheConstants.{MOST_TRACES}
use Rattle.ld_trace.specs.Sources.{PlainSource, plain}
use Rattle.ld_reduce.specs.Written.{IsTrace, written}
use Rattle.ld_cut.specs.Cut.{AreCut, all_pieces}
use Rattle.ld_cut.proofs.CutLemmas.{cut-more, cut-of, cut-some, length-more, written-more}
use Rattle.ld_cut.proofs.stream.cut.Goals as goal

abbrev no_source : Source
no_source = record { number = 0; name = record { ref_ptr = (0, 0); now = [] }; first_line = 0; bytes = record { ref_ptr = (0, 0); now = [] } }

pub write_cut-requires-clause-trace : goal.write_cut-requires-clause-trace
write_cut-requires-clause-trace c =
    let sources = c.args.sources.now in
    let i = c.loop-source.source-index in
    let here = c.loop-source-test.true in
    let low : i < length (map plain sources) = omega (arith, length-map sources plain) in
    subst IsTrace (get_or-map plain sources i no_source) (c.requires i (plain no_source) low)

pub loop-source-preserved : goal.loop-source-preserved
loop-source-preserved c =
    let sources = c.args.sources.now in
    let lines = c.args.lines in
    let i = c.loop-source.source-index in
    let source = plain (get_or sources i no_source) in
    let before = c.loop-source.invariant in
    let now = c.in_ok-room.ensures in
    let taken : map plain (take (i + 1) sources) ≡ map plain (take i sources) ++ source ∷ [] =
    ap (map plain) (take_more sources i no_source c.loop-source-test.true) ∙ map-append plain (take i sources) (get_or sources i no_source ∷ []) in
    let some : 1 ≤ length now.0 = cut-some lines source now.0 now.1 in
    let more : length (all_pieces (before.0 ++ now.0 ∷ [])) ≡ length (all_pieces before.0) + length now.0 = length-more before.0 now.0 in
    let left : length now.0 + c.in_ok-room.room ≤ c.loop-source.room + 1 = now.3 in
    let had : length (all_pieces before.0) + c.loop-source.room ≤ i + (MOST_TRACES - length sources) = before.3 in
    let most : c.loop-source.room ≤ MOST_TRACES = before.4 in (
      before.0 ++ now.0 ∷ [],
      subst (λ xs. AreCut lines xs (before.0 ++ now.0 ∷ [])) (sym taken) (cut-more lines (map plain (take i sources)) before.0 source now.0 before.1 now.1),
      now.2 ∙ ap (λ o. o ++ written now.0) before.2 ∙ sym (written-more before.0 now.0),
      omega arith,
      omega arith,
    )

pub returns : goal.returns
returns c =
    let sources = c.args.sources.now in
    let lines = c.args.lines in
    let i = c.loop-source.source-index in
    let over = c.loop-source-test.false in
    let within = c.loop-source.auto.source-index-end in
    let before = c.loop-source.invariant in
    let all : take i sources ≡ sources = take_all i sources (omega arith) in
    let had : length (all_pieces before.0) + c.loop-source.room ≤ i + (MOST_TRACES - length sources) = before.3 in
    cut-of lines (map plain sources) before.0 c.loop-source.text.items (subst (λ xs. AreCut lines (map plain xs) before.0) all before.1) before.2
    (λ given. omega (arith, given, length-map sources plain))
