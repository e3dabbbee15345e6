-- The book lists the stream's traces in some order, and there is one in which their numbers rise.
use Rattle.std.proofs.Common.{◌≡◌, ◌⊎◌, inl, inr, Bool, true, List, [], ℕ, All, IfSome, None, Ok, Err, Option, Some, Result, refl, subst}
use Rattle.std.proofs.lemmas.List.Sorted.{All-permutation, IsPermutation-trans}
use Rattle.std.proofs.lemmas.Result.{IfOk-weaker}
use Rattle.ld_trace.specs.declared.source.StreamFault.{StreamFault}
use Rattle.ld_trace.specs.Sources.{sources, stream_fault}
use Rattle.ld_check.specs.declared.checked.CheckFault.TheVariants.{Stream}
use Rattle.ld_reduce.specs.Written.{IsTrace}
use Rattle.ld_reduce.proofs.BookLemmas.{in_order-sources}
use Rattle.ld_reduce.proofs.StreamLemmas.{sources-traces}
use Rattle.ld_origin.specs.Origin.{PlainHome}
use Rattle.ld_reduce.specs.Reduced.{HaveHomes}
use Rattle.ld_places.specs.Places.{PlainFile}
use Rattle.ld_files.specs.Homes.{AreWanted}
use Rattle.lockgraph.specs.Reduced.{IsReducedOf, IsReducedWith}
use Rattle.ld_files.proofs.HomeLemmas.{have-homes}
use Rattle.lockgraph.proofs.reduce.reduction_of.Goals as goal

-- where there is an answer, there is no fault
no_fault : {A E : Type 0} (fault : Option StreamFault) (result : Result A E) (x : A) (of : StreamFault → E) → result ≡ Ok x → IfSome fault (λ f. result ≡ Err (of f)) → fault ≡ None
no_fault None result x of is told = refl
no_fault (Some f) result x of is told = absurd (cc)

-- where homes were wanted, each trace has one
homed : (from : Bool) (files : List PlainFile) (bytes : List ℕ) (homes others : List PlainHome) → AreWanted from files (sources bytes) homes → (others ≡ []) ⊎ (from ≡ true) → (others ≡ []) ⊎ HaveHomes homes (sources bytes)
homed from files bytes homes others are (inl none) = inl none
homed from files bytes homes others are (inr wanted) = inr (have-homes files bytes homes (are.some wanted))

pub reduction_in-reduced-requires : goal.reduction_in-reduced-requires
reduction_in-reduced-requires g c =
    let bytes = c.args.bytes.now in
    All-permutation IsTrace (sources bytes) c.in_ok-checked.checked.book c.in_ok-checked.ensures.book
    (sources-traces bytes (no_fault (stream_fault bytes) _ c.in_ok-checked.checked Stream refl c.in_ok-checked.ensures.fault))

pub returns-clause-reduced : goal.returns-clause-reduced
returns-clause-reduced g c =
    let bytes = c.args.bytes.now in
    let files = c.args.places.now in
    let keeping = c.args.keeping in
    IfOk-weaker c.reduction_in-reduced.result _ _
    (λ reduced found.
    let in_order = found.2 in
    let same = in_order-sources bytes in_order (IsPermutation-trans (sources bytes) c.in_ok-checked.checked.book in_order c.in_ok-checked.ensures.book found.3) found.4 in
    let are = subst (λ all. AreWanted keeping.from files all found.0) c.in_ok-checked.ensures.sources found.1 in
    let written = subst (λ all. IsReducedWith keeping.refused found.0 all reduced.text.items reduced.verdict) same found.5 in
    record {
      homes = found.0;
      are = are;
      written = written;
      again = λ others more fine is. written.reduced.settled others more (homed keeping.from files bytes found.0 others are fine) is;
    })
    c.reduction_in-reduced.ensures.reduced
