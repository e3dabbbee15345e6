-- What is written are the traces whose numbers were noted, each marked.
use Rattle.std.proofs.Common.{◌≡◌, ◌∙◌, ℕ, ap, arith, map, nat_eq, refl}
use Rattle.std.proofs.lemmas.Result.{IfOk-weaker}
use Rattle.std.proofs.lemmas.List.{length-map}
use Rattle.std.specs.List.{list_any}
use Rattle.ld_trace.specs.Sources.{plain}
use Rattle.ld_batch.specs.Batch.{sources_of}
use Rattle.ld_reduce.specs.Kept.{AreKept, kept_by}
use Rattle.ld_origin.specs.Origin.{marked, plain_home}
use Rattle.ld_reduce.specs.Written.{written}
use Rattle.ld_reduce.proofs.MarkedLemmas.{kept-marked, rising-marked, traces-marked}
use Rattle.ld_reduce.proofs.ReducedLemmas.{reduced-is, reduced-needed, reduced-sound, reduced-union}
use Rattle.ld_reduce.proofs.reduce.reduced.Goals as goal

pub returns : goal.returns
returns c =
    let refused = c.args.keep_refused in
    let homes = map plain_home c.args.homes.now in
    let own = sources_of c.args.traces.now in
    let all = map (marked homes) own in
    let is_first = λ (number : ℕ). list_any (nat_eq number) c.args.firsts.now in
    let first = kept_by is_first refused own in
    let kept = map (marked homes) first in
    let own_are : AreKept refused own first = record { is_first = is_first; exact = c.requires.firsts; are = refl } in
    let are : AreKept refused all kept = kept-marked homes refused own first c.requires.heads own_are in
    let traces = traces-marked homes own c.requires.traces in
    let rise = rising-marked homes own c.requires.rising in
    let same : written (map (marked homes) (map plain c.deref.result.now)) ≡ written kept =
    ap (λ them. written (map (marked homes) (map plain them))) c.deref.ensures.value ∙ ap (λ them. written (map (marked homes) them)) c.in_ok-kept.ensures in
    let told = c.write_traces.ensures in
    record {
      reduced = IfOk-weaker c.write_traces.result _ _ (λ text is. reduced-is refused all kept are text.items (is ∙ same) traces) told;
      sound = IfOk-weaker c.write_traces.result _ _
          (λ text is few. reduced-sound refused all kept are text.items (is ∙ same) traces (omega (arith, few, length-map own (marked homes), length-map c.args.traces.now (λ t. plain t.source)))) told;
      union = IfOk-weaker c.write_traces.result _ _ (λ text is. reduced-union refused all kept are text.items (is ∙ same) traces rise) told;
      needed = IfOk-weaker c.write_traces.result _ _ (λ text is. reduced-needed refused all kept are text.items (is ∙ same) traces rise) told;
    }
