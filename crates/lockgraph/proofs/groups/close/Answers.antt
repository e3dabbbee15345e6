-- The group is what is left of it.
use Rattle.std.proofs.Common.{◌≡◌, ◌∙◌, ◌==◌, ◌||◌, None, ap, map, not, refl, subst}
use Rattle.ld_trace.specs.Sources.{sources, stream_fault}
use Rattle.ld_check.specs.OfReport.OfBook.Totals.{refused_count}
use Rattle.ld_origin.specs.Origin.{plain_home}
use Rattle.ld_reduce.specs.Reduction.{IsReductionOf}
use Rattle.lockgraph.specs.declared.reduce.ReduceFault.TheVariants.{Stream}
use Rattle.lockgraph.specs.Groups.{AreHomed}
use Rattle.lockgraph.proofs.GroupLemmas.{no_fault}
use Rattle.lockgraph.proofs.groups.close.Goals as goal

pub returns-clause-closed : goal.returns-clause-closed
returns-clause-closed g c =
    let bytes = c.deref.result.now in
    let group = c.args.group.now in
    let left = c.in_ok-left.left in
    let told = c.in_ok-left.ensures in
    let text = left.text.items in
    let keep = c.args.keeping.refused in
    let none : stream_fault bytes ≡ None = no_fault (stream_fault bytes) _ left Stream refl told.stream in
    record {
      sound = subst (λ o. stream_fault o ≡ None) c.deref.ensures.value none;
      left =
          subst (λ o. IsReductionOf keep (map plain_home group.homes.items) (sources o) text) c.deref.ensures.value
          (subst (λ o. IsReductionOf keep (map plain_home o) (sources bytes) text) c.deref-2.ensures.value told.left);
      homed =
          subst (λ o. AreHomed c.args.keeping.from (record { bytes = o; homes = map plain_home c.in_ok-found.found.homes.items }))
          c.deref-3.ensures.value c.in_ok-found.ensures;
      lost = c.is_lost-group.ensures ∙ ap (λ k. group.lost || not (k == 0)) (told.refused ∙ ap (λ o. refused_count (sources o)) c.deref.ensures.value);
    }
