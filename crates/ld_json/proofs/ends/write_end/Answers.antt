use Rattle.std.proofs.Common.{append_assoc}
use Rattle.ld_json.specs.Json.{end_line}
use Rattle.ld_json.proofs.ends.write_end.Goals as goal

pub returns : goal.returns
unfolding end_line
returns c =
    rw (c.in_ok-write_words.ensures, c.in_ok-write_since-2.ensures, c.in_ok-write_since.ensures, c.in_ok-write_seen.ensures, c.in_ok-write_text.ensures, c.in_ok-write_use_name.ensures, c.in_ok-write_class.ensures, c.in_ok-write_state.ensures, c.in_ok-write_number.ensures)
    (simp append_assoc)
