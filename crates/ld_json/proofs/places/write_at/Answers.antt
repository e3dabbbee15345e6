use Rattle.std.proofs.Common.{append_assoc}
use Rattle.ld_json.specs.Json.{at_json}
use Rattle.ld_json.proofs.places.write_at.Goals as goal

pub returns : goal.returns
unfolding at_json
returns c =
    rw (c.in_ok-write_words-2.ensures, c.in_ok-write_number-2.ensures, c.in_ok-write_text-2.ensures, c.in_ok-write_number.ensures, c.in_ok-write_text.ensures, c.in_ok-write_words.ensures)
    (simp (append_assoc, c.as_bytes.ensures.value))
