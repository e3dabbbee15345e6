-- The traces of a stream without fault are cut.
use Rattle.std.proofs.Common.{◌≡◌, ◌∙◌, ◌≤◌, Option, Some, None, Ok, Err, Result, IfSome, All, length, map, ap, arith, refl, subst, sym}
use Rattle.std.proofs.lemmas.List.{length-map}
use Rattle.ld_trace.specs.declared.source.StreamFault.{StreamFault}
use Rattle.ld_trace.specs.declared.source.TheConstants.{LONGEST_STREAM, MOST_TRACES}
use Rattle.ld_trace.specs.Sources.{plain, sources, stream_fault}
use Rattle.ld_reduce.specs.Written.{IsTrace}
use Rattle.ld_reduce.proofs.StreamLemmas.{sources-traces}
use Rattle.ld_cut.specs.Cut.{IsCutOf}
use Rattle.lockgraph.proofs.cutting.cut_of.Goals as goal

-- where there is an answer, there is no fault
no_fault : {A : Type 0} (fault : Option StreamFault) (result : Result A StreamFault) (x : A) → result ≡ Ok x → IfSome fault (λ f. result ≡ Err f) → fault ≡ None
no_fault None result x is told = refl
no_fault (Some f) result x is told = absurd (cc)

pub cut-requires : goal.cut-requires
cut-requires c =
    let bytes = c.args.bytes.now in
    let sound : stream_fault bytes ≡ None = no_fault (stream_fault bytes) c.split.result c.in_ok-traces.traces c.in_ok-traces.was c.split.ensures.fault in
    let same : map plain c.deref.result.now ≡ sources bytes = ap (map plain) c.deref.ensures.value ∙ c.in_ok-traces.ensures.sources in
    subst (All IsTrace) (sym same) (sources-traces bytes sound)

pub returns-clause-cut : goal.returns-clause-cut
returns-clause-cut c =
    let same : map plain c.deref.result.now ≡ sources c.args.bytes.now = ap (map plain) c.deref.ensures.value ∙ c.in_ok-traces.ensures.sources in
    subst (λ all. IsCutOf c.args.lines all c.in_ok-text.text.items) same c.in_ok-text.ensures

pub returns-clause-fine : goal.returns-clause-fine
returns-clause-fine c =
    let few : length (map plain c.deref.result.now) ≤ MOST_TRACES =
    omega (arith, length-map c.deref.result.now plain, ap length c.deref.ensures.value, c.in_ok-traces.ensures.few) in
    let short : length c.in_ok-text.text.items ≤ LONGEST_STREAM = omega arith in
    c.in_ok-text.ensures.sound few short
