use Rattle.std.proofs.Common.{append_assoc}
use Rattle.ld_json.specs.Json.{refused_line}
use Rattle.ld_json.proofs.tables.write_refused.Goals as goal

pub returns : goal.returns
unfolding refused_line
returns c =
    rw (c.in_ok-write_words.ensures, c.in_ok-write_said.ensures, c.in_ok-write_text.ensures, c.in_ok-write_at.ensures)
    (simp (append_assoc, c.as_bytes.ensures.value))
