use Rattle.std.proofs.Common.{rules, ◌≡◌, ◌<◌, ◌++◌, ◌∷◌, [], ◌∙◌, List, Option, Some, ap, append_assoc, length, map, sym, take}
use Rattle.std.proofs.lemmas.List.{map-append, take_more}
use Rattle.ld_trace.specs.declared.event.State.{State}
use Rattle.ld_overview.specs.OfBook.Findings.{PlainForbiddenRow, plain_forbidden_row}
use Rattle.ld_rows.specs.declared.violations.Kind.{Kind}
use Rattle.ld_rows.specs.declared.violations.Kind.TheVariants.{Forbidden}
use Rattle.ld_explain.specs.Steps.{violation_said}
use Rattle.ld_explain.proofs.violations.add_forbidden.Goals as goal

pub loop-place-preserved : goal.loop-place-preserved
loop-place-preserved c =
    let rows = c.args.rows.now in
    let place = c.loop-place.place in
    let within : place < length rows = search rules in
    let row = plain_forbidden_row c.row-row.result in
    let said : PlainForbiddenRow → Kind × Option State = λ r. (Forbidden, Some r.state) in
    let old : List (Kind × Option State) = map violation_said c.args.all.now.items in
    let violation = c.in_ok-violation.violation in
    let here : violation_said violation ≡ said row = c.in_ok-violation.ensures.said in
    record {
      first = λ was. c.in_ok-add.ensures.first c.args.book.now (c.loop-place.invariant.first was) c.in_ok-violation.ensures.first;
      every = λ all.
          ap (map violation_said) (c.in_ok-add.ensures.every all)
          ∙ map-append violation_said c.loop-place.all.items (violation ∷ [])
          ∙ ap (λ (these : List (Kind × Option State)). these ++ violation_said violation ∷ []) (c.loop-place.invariant.every all)
          ∙ append_assoc old (map said (take place rows)) (violation_said violation ∷ [])
          ∙ ap (λ (these : List (Kind × Option State)). old ++ these)
          (ap (λ (s : Kind × Option State). map said (take place rows) ++ s ∷ []) here
          ∙ sym (map-append said (take place rows) (row ∷ []))
          ∙ ap (map said) (ap (λ (r : PlainForbiddenRow). take place rows ++ r ∷ []) (c.row-row.ensures row) ∙ sym (take_more rows place row within)));
    }
