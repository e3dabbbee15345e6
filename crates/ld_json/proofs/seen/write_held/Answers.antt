use Rattle.std.proofs.Common.{append_assoc}
use Rattle.ld_json.specs.Json.{held_json}
use Rattle.ld_json.proofs.seen.write_held.Goals as goal

pub returns : goal.returns
unfolding held_json
returns c =
    rw (c.in_ok-write_words-2.ensures, c.in_ok-write_line.ensures, c.in_ok-write_truth.ensures, c.in_ok-write_instance.ensures, c.in_ok-write_class.ensures, c.in_ok-write_words.ensures)
    (simp append_assoc)
