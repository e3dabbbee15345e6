-- What the group was reduced to is what all was reduced to.
use Rattle.std.proofs.Common.{◌≡◌, List, ℕ, None, ap, map, refl, subst, sym}
use Rattle.std.specs.Io.KnownBytes.{Appends}
use Rattle.ld_trace.specs.Sources.{sources, stream_fault}
use Rattle.ld_io.specs.Transfer.{AppendsPart}
use Rattle.ld_check.specs.OfReport.OfBook.Totals.{refused_count}
use Rattle.ld_check.specs.OfReport.declared.verdict.Verdict.{Verdict}
use Rattle.ld_origin.specs.Origin.{PlainHome, plain_home}
use Rattle.ld_reduce.specs.Reduction.{IsReductionOf}
use Rattle.lockgraph.specs.declared.groups.Group.{Group}
use Rattle.lockgraph.specs.declared.reduce.Keeping.{Keeping}
use Rattle.lockgraph.specs.declared.reduce.ReduceFault.TheVariants.{Stream}
use Rattle.lockgraph.specs.Groups.{Homed, IsReducedAll, Stands, verdict_of_lost}
use Rattle.lockgraph.proofs.GroupLemmas.{all-reduced, no_fault}
use Rattle.lockgraph.proofs.groups.write_group.Goals as goal

-- the bytes and homes that the calls were given are those of the group
told : (keeping : Keeping) (group : Group) (bytes : List ℕ) (homes : List PlainHome) (text : List ℕ) (refused : ℕ) (verdict : Verdict)
    → bytes ≡ group.bytes.items → homes ≡ map plain_home group.homes.items → stream_fault bytes ≡ None
    → IsReductionOf keeping.refused homes (sources bytes) text → refused ≡ refused_count (sources bytes) → verdict ≡ verdict_of_lost keeping.refused group.lost refused
    → (all : Homed) → Stands keeping group all → IsReducedAll keeping all text verdict
told keeping group bytes homes text refused verdict same same_homes sound reduction count is all stands =
    subst (λ v. IsReducedAll keeping all text v) (sym is)
    (all-reduced keeping group text refused (subst (λ o. stream_fault o ≡ None) same sound)
    (subst (λ o. IsReductionOf keeping.refused (map plain_home group.homes.items) (sources o) text) same
    (subst (λ o. IsReductionOf keeping.refused o (sources bytes) text) same_homes reduction))
    (subst (λ o. refused ≡ refused_count (sources o)) same count) all stands)

pub returns-in-Ok-clause-ok : goal.returns-in-Ok-clause-ok
returns-in-Ok-clause-ok g c =
    let bytes = c.deref.result.now in
    let left = c.in_ok-left in
    let sound : stream_fault bytes ≡ None = no_fault (stream_fault bytes) _ left.left Stream refl left.ensures.stream in (
      left.left.text.items,
      told c.args.keeping c.args.group.now bytes (map plain_home c.deref-2.result.now) left.left.text.items left.left.refused c.verdict_of_lost-verdict.result
          c.deref.ensures.value (ap (map plain_home) c.deref-2.ensures.value) sound left.ensures.left left.ensures.refused c.verdict_of_lost-verdict.ensures,
      subst (λ o. Appends (g.O.Output.held c.args.output.now) (g.O.Output.held c.send.new.output) o) c.deref-3.ensures.value c.in-Ok.ensures.ok,
    )

pub returns-clause-part : goal.returns-clause-part
returns-clause-part g c =
    let bytes = c.deref.result.now in
    let left = c.in_ok-left in
    let sound : stream_fault bytes ≡ None = no_fault (stream_fault bytes) _ left.left Stream refl left.ensures.stream in
    λ failed. (
      left.left.text.items,
      c.verdict_of_lost-verdict.result,
      told c.args.keeping c.args.group.now bytes (map plain_home c.deref-2.result.now) left.left.text.items left.left.refused c.verdict_of_lost-verdict.result
          c.deref.ensures.value (ap (map plain_home) c.deref-2.ensures.value) sound left.ensures.left left.ensures.refused c.verdict_of_lost-verdict.ensures,
      subst (λ o. AppendsPart (g.O.Output.held c.args.output.now) (g.O.Output.held c.send.new.output) o) c.deref-3.ensures.value c.in-Err.ensures.part,
    )
