-- One more row says what one more violation does.
use Rattle.std.proofs.Common.{◌∙◌, ◌++◌, ◌∷◌, [], ap, get_or, map, subst, sym, take}
use Rattle.std.proofs.lemmas.List.{map-append, take_more}
use Rattle.ld_explain.specs.Rows.{row_said}
use Rattle.ld_explain.specs.Steps.{AreFirst, violation_said}
use Rattle.ld_explain.proofs.rows.violations.violation_rows.Goals as goal

pub loop-violation-preserved : goal.loop-violation-preserved
loop-violation-preserved c =
    let all = c.args.violations.now in
    let place = c.loop-violation.violation-index in
    let violation = c.violation-item.result in
    let within = c.loop-violation-test.true in
    record {
      said =
          ap (map row_said) c.in_ok-push.ensures.items
          ∙ map-append row_said c.loop-violation.rows.items (c.in_ok-violation_row.field-0 ∷ [])
          ∙ (λ i. c.loop-violation.invariant.said i ++ (c.in_ok-violation_row.ensures.said ∙ ap violation_said c.violation-item.is) i ∷ [])
          ∙ sym (map-append violation_said (take place all) (get_or all place violation ∷ []))
          ∙ ap (map violation_said) (sym (take_more all place violation within));
      first = λ sources old firsts.
          c.in_ok-violation_row.ensures.first sources (c.loop-violation.invariant.first sources old firsts)
          (subst (AreFirst sources) (sym c.violation-item.is) (firsts place violation within));
    }
