-- The first field stands between the blanks at the front and the first blank after them.
use Rattle.std.proofs.Common.{◌∙◌, rules}
use Rattle.ld_trace.proofs.FieldLemmas.{fields-run, fields-empty}
use Rattle.ld_trace.proofs.line.next_field.Goals as goal

pub returns-then-is_empty : goal.returns-then-is_empty
returns-then-is_empty c = c.skip_blanks-text.ensures.same ∙ fields-empty c.skip_blanks-text.result.now (search rules)

pub returns : goal.returns
returns c =
    let run = fields-run c.skip_blanks-text.result.now (search rules) c.skip_blanks-text.ensures.front in
    rw (c.split_at.ensures.front, c.split_at.ensures.back, c.run_len.ensures.front) (c.skip_blanks-text.ensures.same ∙ run)
