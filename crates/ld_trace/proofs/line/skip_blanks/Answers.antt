-- No blank belongs to a field.
use Rattle.ld_trace.proofs.FieldLemmas.{fields-blanks, prefix_len-after}
use Rattle.ld_trace.specs.Lines.{is_blank}
use Rattle.ld_trace.proofs.line.skip_blanks.Goals as goal

pub returns-clause-same : goal.returns-clause-same
returns-clause-same c = rw (c.split_at.ensures.back, c.blank_len.ensures.front) (fields-blanks c.args.text.now)

pub returns-clause-front : goal.returns-clause-front
returns-clause-front c = rw (c.split_at.ensures.back, c.blank_len.ensures.front) (prefix_len-after is_blank c.args.text.now)
