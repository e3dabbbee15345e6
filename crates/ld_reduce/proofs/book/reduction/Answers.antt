-- The traces are those of the book, in order.
use Rattle.std.proofs.Common.{◌≡◌, ◌∙◌, All, ap, arith, length, map, nat_eq, subst, sym}
use Rattle.std.proofs.lemmas.List.{length-map}
use Rattle.std.proofs.lemmas.List.Sorted.{All-permutation}
use Rattle.std.specs.Bool.{Decides}
use Rattle.std.specs.List.{list_any}
use Rattle.ld_trace.specs.Sources.{plain, sources}
use Rattle.ld_batch.specs.Batch.{AreRising}
use Rattle.ld_reduce.specs.Kept.{IsFirst}
use Rattle.ld_origin.specs.Origin.{marked, plain_home}
use Rattle.ld_reduce.specs.Reduced.{IsReduced}
use Rattle.ld_reduce.specs.Same.{HaveSameUnion}
use Rattle.ld_reduce.specs.Written.{IsTrace}
use Rattle.ld_reduce.proofs.BookLemmas.{all_four, first-permuted, fits-heads, reduction-is}
use Rattle.ld_reduce.proofs.MarkedLemmas.{HasHead}
use Rattle.ld_reduce.proofs.book.reduction.Goals as goal

pub reduced-requires-clause-rising : goal.reduced-requires-clause-rising
reduced-requires-clause-rising c = subst AreRising (sym c.listed-2.ensures.sources) c.listed-2.ensures.rising

pub reduced-requires-clause-traces : goal.reduced-requires-clause-traces
reduced-requires-clause-traces c =
    subst (λ all. All IsTrace all) (sym c.listed-2.ensures.sources) (All-permutation IsTrace c.args.book.now c.in_ok-traces.traces c.in_ok-traces.ensures.same c.requires)

pub reduced-requires-clause-firsts : goal.reduced-requires-clause-firsts
reduced-requires-clause-firsts c = λ number.
    subst (λ all. Decides (list_any (nat_eq number) c.in_ok-firsts.firsts) (IsFirst all number)) (sym c.listed-2.ensures.sources)
    (first-permuted c.args.book.now c.in_ok-traces.traces c.in_ok-traces.ensures.same number _ (c.in_ok-firsts.ensures number))

pub reduced-requires-clause-heads : goal.reduced-requires-clause-heads
reduced-requires-clause-heads c =
    subst (λ all. All HasHead all) (sym c.listed-2.ensures.sources) (All-permutation HasHead c.args.book.now c.in_ok-traces.traces c.in_ok-traces.ensures.same (fits-heads c.args.book.now c.listed.ensures.fit))

pub returns : goal.returns
returns c =
    let keep = c.args.keep_refused in
    let homes = map plain_home c.args.homes.now in
    let listed = c.listed-2.result.now in
    let in_order = c.in_ok-traces.traces in
    let moved = c.in_ok-traces.ensures.same in
    let rising = c.in_ok-traces.ensures.rising in
    let same = c.listed-2.ensures.sources in
    let traces = All-permutation IsTrace c.args.book.now in_order moved c.requires in
    let heads = All-permutation HasHead c.args.book.now in_order moved (fits-heads c.args.book.now c.listed.ensures.fit) in
    let long : length listed ≡ length in_order = sym (length-map listed (λ t. plain t.source)) ∙ ap length same in
    let told = c.reduced.ensures in
    all_four c.reduced.result
    (λ text reduced sound union needed. (
      in_order,
      moved,
      rising,
      reduction-is keep homes in_order text.items traces rising heads
          (subst (λ all. IsReduced keep (map (marked homes) all) text.items) same reduced)
          (λ few short. sound (omega (arith, few, long)) short)
          (subst (λ all. HaveSameUnion (map (marked homes) all) (sources text.items)) same union)
          needed,
    ))
    told.reduced told.sound told.union told.needed
