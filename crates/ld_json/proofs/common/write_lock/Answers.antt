use Rattle.std.proofs.Common.{append_assoc}
use Rattle.ld_json.specs.Json.{common_lock_json}
use Rattle.ld_json.proofs.common.write_lock.Goals as goal

pub returns : goal.returns
unfolding common_lock_json
returns c =
    rw (c.in_ok-write_words-2.ensures, c.in_ok-write_truth.ensures, c.in_ok-write_instance.ensures, c.in_ok-write_text.ensures, c.in_ok-write_words.ensures)
    (simp append_assoc)
