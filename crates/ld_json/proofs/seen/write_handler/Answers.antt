use Rattle.std.proofs.Common.{append_assoc}
use Rattle.ld_json.specs.Json.{handler_json}
use Rattle.ld_json.proofs.seen.write_handler.Goals as goal

pub returns : goal.returns
unfolding handler_json
returns c =
    rw (c.in_ok-write_words-3.ensures, c.in_ok-write_line.ensures, c.in_ok-write_words-2.ensures, c.in_ok-write_state.ensures, c.in_ok-write_words.ensures)
    (simp append_assoc)
