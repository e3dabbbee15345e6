use Rattle.std.proofs.Common.{append_assoc}
use Rattle.ld_json.specs.Json.{quoted}
use Rattle.ld_json.proofs.quoted.write_text.Goals as goal

pub returns : goal.returns
unfolding quoted
returns c =
    rw (c.in_ok-write_one-2.ensures, c.in_ok-write_shown.ensures, c.in_ok-write_one.ensures, c.in_ok-write_words.ensures)
    (simp append_assoc)
