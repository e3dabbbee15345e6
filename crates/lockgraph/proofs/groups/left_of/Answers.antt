-- The book lists the stream's traces in some order, and there is one in which their numbers rise.
use Rattle.std.proofs.Common.{◌≡◌, ◌∙◌, None, map, refl, ap, subst}
use Rattle.std.proofs.lemmas.List.Sorted.{All-permutation, IsPermutation-trans}
use Rattle.ld_trace.specs.Sources.{sources, stream_fault}
use Rattle.ld_check.specs.declared.checked.CheckFault.TheVariants.{Stream}
use Rattle.ld_check.specs.OfReport.OfBook.declared.listing.Totals.{Totals}
use Rattle.ld_check.proofs.OfReport.OfBook.PermutedLemmas.{totals-permuted}
use Rattle.ld_origin.specs.Origin.{plain_home}
use Rattle.ld_reduce.specs.Reduction.{IsReductionOf}
use Rattle.ld_reduce.specs.Written.{IsTrace}
use Rattle.ld_reduce.proofs.BookLemmas.{in_order-sources}
use Rattle.ld_reduce.proofs.StreamLemmas.{sources-traces}
use Rattle.lockgraph.proofs.GroupLemmas.{no_fault, none-some}
use Rattle.lockgraph.proofs.groups.left_of.Goals as goal

pub left_in-left-requires : goal.left_in-left-requires
left_in-left-requires g c =
    let bytes = c.args.bytes.now in
    All-permutation IsTrace (sources bytes) c.in_ok-checked.checked.book c.in_ok-checked.ensures.book
    (sources-traces bytes (no_fault (stream_fault bytes) _ c.in_ok-checked.checked Stream refl c.in_ok-checked.ensures.fault))

pub returns-clause-left : goal.returns-clause-left
returns-clause-left g c =
    let bytes = c.args.bytes.now in
    let found = c.in_ok-left.ensures.left in
    subst (λ all. IsReductionOf c.args.keep_refused (map plain_home c.args.homes.now) all c.in_ok-left.field-0.text.items)
    (in_order-sources bytes found.0 (IsPermutation-trans (sources bytes) c.in_ok-checked.checked.book found.0 c.in_ok-checked.ensures.book found.1) found.2)
    found.3

pub returns-clause-refused : goal.returns-clause-refused
returns-clause-refused g c =
    c.in_ok-left.ensures.refused
    ∙ ap (λ (t : Totals). t.refused) (totals-permuted (sources c.args.bytes.now) c.in_ok-checked.checked.book c.in_ok-checked.ensures.book)

pub returns-clause-stream : goal.returns-clause-stream
returns-clause-stream g c =
    let bytes = c.args.bytes.now in
    let none : stream_fault bytes ≡ None = no_fault (stream_fault bytes) _ c.in_ok-checked.checked Stream refl c.in_ok-checked.ensures.fault in
    none-some (stream_fault bytes) _ none
