use Rattle.std.proofs.Common.{append_assoc}
use Rattle.ld_json.specs.Json.{end_of_lines}
use Rattle.ld_json.proofs.text.write_count.Goals as goal

pub returns : goal.returns
unfolding end_of_lines
returns c =
    rw (c.in_ok-write_words.ensures, c.in_ok-write_number.ensures)
    (simp append_assoc)
