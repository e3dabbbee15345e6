use Rattle.std.proofs.Common.{rules, ◌≡◌, ap, arith, length, map, subst}
use Rattle.std.proofs.lemmas.List.{length-map}
use Rattle.std.proofs.lemmas.List.Sorted.{length_permutation}
use Rattle.std.specs.List.{Contains}
use Rattle.ld_trace.specs.Sources.{PlainSource, plain}
use Rattle.ld_batch.specs.Batch.{sources_of}
use Rattle.ld_work.proofs.EvenLemmas.{permuted_from_within}
use Rattle.ld_work.proofs.even.are_all.Goals as goal

pub returns : goal.returns
returns c =
    let sources = map plain c.args.sources.now in
    let listed = sources_of c.args.listed.now in
    let mapped = length-map c.args.sources.now plain in
    let shown = length-map c.args.listed.now (λ l. plain l.source) in (
      (λ yes.
          let as_many : length c.args.listed.now ≡ length c.args.sources.now = search rules in
          permuted_from_within listed sources
          (λ i j d lower inside same. c.requires.apart i j d lower inside (ap (λ (s : PlainSource). s.number) same))
          (λ z has. subst (Contains sources) has.2 (c.requires.among has.0 z has.1))
          (omega (arith, as_many, mapped, shown))),
      (λ same.
          let all = length_permutation sources listed same in
          let as_many : length c.args.listed.now ≡ length c.args.sources.now = omega (arith, all, mapped, shown) in
          search rules),
    )
