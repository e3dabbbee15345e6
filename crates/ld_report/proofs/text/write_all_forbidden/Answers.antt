use Rattle.std.proofs.Common.{rules, ◌<◌, ◌++◌, ◌∷◌, [], ◌∙◌, List, ap, flat_map, length, sym, take}
use Rattle.std.proofs.lemmas.List.{flat_map_more, take_more}
use Rattle.ld_book.specs.Findings.{PlainForbiddenRow, plain_forbidden_row}
use Rattle.ld_report.specs.Report.{forbidden_line}
use Rattle.ld_report.proofs.text.write_all_forbidden.Goals as goal

pub loop-place-preserved : goal.loop-place-preserved
loop-place-preserved c =
    let rows = c.args.walks.now in
    let line = forbidden_line c.args.traces.now in
    let place = c.loop-place.place in
    let within : place < length rows = search rules in
    let row = plain_forbidden_row c.row-walk.result in (
      c.in_ok-write_forbidden.ensures
          ∙ ap (λ text. text ++ line row) c.loop-place.invariant.0
          ∙ flat_map_more line c.args.text.now.items (take place rows) row
          ∙ ap (λ (written : List PlainForbiddenRow). c.args.text.now.items ++ flat_map line written)
          (ap (λ (r : PlainForbiddenRow). take place rows ++ r ∷ []) (c.row-walk.ensures row) ∙ sym (take_more rows place row within)),
      c.in_ok-begin_forbidden.ensures,
    )
