-- One section more.
use Rattle.std.proofs.Common.{◌≡◌, ◌≢◌, ◌∷◌, [], ◌++◌, ◌+◌, rules, arith, sym, ◌∙◌, ap, length, length-append, drop, map, Some, is_some, subst}
use Rattle.std.proofs.lemmas.List.{map-append}
use Rattle.std.specs.List.{prefix_len}
use Rattle.ld_trace.specs.declared.source.Source.{Source}
use Rattle.ld_trace.specs.declared.source.TheConstants.{MOST_TRACES}
use Rattle.ld_trace.specs.Lines.{lines}
use Rattle.ld_trace.specs.Sources.{AreNumbered, Fits, fields_of, is_other, label_of, opened_at, plain, section_at, sources}
use Rattle.ld_trace.proofs.FieldLemmas.{prefix_len-after}
use Rattle.ld_trace.proofs.SplitLemmas.{pushed, pushed-all}
use Rattle.ld_trace.specs.Inner.Splitting.{given_from}
use Rattle.ld_trace.proofs.SectionLemmas.{Opens, header-first, headers-section, left-section, faults-section, sections-section, section-is, label-word, neither}
use Rattle.ld_trace.proofs.NumberLemmas.{few_that_fit, numbered}
use Rattle.ld_trace.proofs.cut.split.Goals as goal

pub loop-head-preserved : goal.loop-head-preserved
loop-head-preserved c =
    let all = lines c.args.bytes.now in
    let k = c.loop-head.rest.count in
    let m = c.body-body.result.count in
    let number = c.loop-head.number in
    let x = c.in-Some.ensures.line in
    let others = lines c.in-Some.head.rest.now in
    let i = c.loop-head.invariant in
    let body = c.body-body.ensures in
    let is : drop k all ≡ x ∷ others = sym i.cut.left ∙ c.in-Some.ensures.first in
    let opens : Opens all k m x others = record { is = is; header = header-first x others (ap (prefix_len is_other) (sym c.in-Some.ensures.first) ∙ i.cut.at_header); own = body.count } in
    let labelled : label_of (fields_of x) ≡ Some c.in-Some-label.name.now = search rules in
    let few : number ≢ MOST_TRACES = search rules in
    let source : Source = record { number = number; name = c.in-Some-label.name; first_line = k + 2; bytes = c.body-body.result.bytes } in
    let told : plain source ≡ section_at all k = section-is all k m number x others _ _ opens i.headers labelled body.bytes in
    record {
      cut = record {
        left = body.rest ∙ left-section all k m x others opens;
        faults = faults-section all k m number x others opens i.headers few (ap is_some labelled) i.cut.faults;
        at_header = ap (prefix_len is_other) (body.rest ∙ ap (λ n. drop n others) body.count) ∙ prefix_len-after is_other others;
      };
      headers = headers-section all k m x others opens ∙ ap (λ n. n + 1) i.headers;
      opened = λ h.
          let both = neither c.loop-head.refused c.is_err-refused.result h in
          ap (λ items. map plain items ++ given_from (opened_at all) all (k + 1 + m)) (pushed c.push.result _ _ source c.push.ensures.items (sym c.is_err-refused.ensures.value ∙ both.1))
          ∙ ap (λ told. told ++ given_from (opened_at all) all (k + 1 + m)) (map-append plain c.loop-head.sources.items (source ∷ []))
          ∙ sections-section all k m x others _ (plain source) opens told (i.opened both.0);
      fit = pushed-all (λ s. Fits (plain s)) c.push.result _ _ source c.push.ensures.items i.fit (record {
        number = omega (arith, few, i.few);
        label = label-word (fields_of x) _ labelled;
        from_line = omega arith;
        to_line = omega (arith, ap length c.in-Some.ensures.whole, length-append x c.in-Some.head.rest.now, c.in-Some.ensures.nonempty, i.within, i.long);
        bytes = omega (arith, ap length c.in-Some.ensures.whole, length-append x c.in-Some.head.rest.now, body.own, i.within, i.long);
      });
      within = omega (arith, ap length c.in-Some.ensures.whole, length-append x c.in-Some.head.rest.now, c.in-Some.ensures.nonempty, body.within, i.within);
      long = i.long;
      few = omega (arith, few, i.few);
    }

pub returns-clause-numbered : goal.returns-clause-numbered
returns-clause-numbered c =
    let whole : map plain c.loop-head.sources.items ≡ sources c.args.bytes.now = search rules in
    subst AreNumbered (sym whole) (numbered c.args.bytes.now)

pub returns-clause-few : goal.returns-clause-few
returns-clause-few c =
    let whole : map plain c.loop-head.sources.items ≡ sources c.args.bytes.now = search rules in
    few_that_fit c.loop-head.sources.items (subst AreNumbered (sym whole) (numbered c.args.bytes.now)) c.loop-head.invariant.fit
