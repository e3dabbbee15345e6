-- As many traces are refused, in whichever order.
use Rattle.std.proofs.Common.{◌∙◌, ap, map, subst, sym}
use Rattle.ld_check.proofs.OfReport.OfBook.PermutedLemmas.{totals-permuted}
use Rattle.ld_check.specs.OfReport.OfBook.declared.listing.Totals.{Totals}
use Rattle.ld_trace.specs.Sources.{plain}
use Rattle.ld_origin.specs.Origin.{plain_home}
use Rattle.ld_reduce.specs.Reduction.{IsReductionOf}
use Rattle.ld_files.specs.Homes.{AreHomes}
use Rattle.lockgraph.specs.Reduced.{verdict_of_reduced}
use Rattle.lockgraph.proofs.reduce.reduction_in.Goals as goal

pub returns-clause-reduced : goal.returns-clause-reduced
returns-clause-reduced c =
    let found = c.in_ok-text.ensures in
    let book = c.args.checked.now.book in
    let homes = map plain_home c.in_ok-homes.homes.items in
    let same = totals-permuted book found.0 found.1 in (
      homes,
      record {
        some = λ wanted. subst (λ them. AreHomes c.args.places.now (map plain them) homes) c.deref.ensures.value (c.in_ok-homes.ensures.some wanted);
        none = λ other. ap (map plain_home) (c.in_ok-homes.ensures.none other);
      },
      found.0,
      found.1,
      found.2,
      record {
        reduced = subst (λ them. IsReductionOf c.args.keeping.refused (map plain_home them) found.0 c.in_ok-text.text.items) c.deref-2.ensures.value found.3;
        verdict_is = c.verdict_of_reduced-verdict.ensures ∙ ap (λ (t : Totals). verdict_of_reduced c.args.keeping.refused t.refused) (c.totals.ensures.totals ∙ sym same);
      },
    )
