-- Three pieces are written, one behind another.
use Rattle.std.proofs.Common.{◌++◌, ◌∙◌, ap, append_assoc}
use Rattle.ld_occurrences.specs.Text.{count_text, place_text}
use Rattle.ld_occurrences.proofs.text.write_occurrence.Goals as goal

pub returns : goal.returns
returns c =
    let old = c.args.text.now.items in
    let count = count_text c.args.row.now.lines in
    let label = c.args.row.now.source.name.now in
    let place = place_text c.args.file.now c.args.line in
    c.in_ok-write_place.ensures
    ∙ ap (λ text. text ++ place)
    (c.in_ok-extend_from_slice.ensures.items ∙ ap (λ text. text ++ label) c.in_ok-write_count.ensures ∙ append_assoc old count label)
    ∙ append_assoc old (count ++ label) place
