use Rattle.std.proofs.Common.{append_assoc}
use Rattle.ld_json.specs.Json.{common_member}
use Rattle.ld_json.proofs.common.write_some.Goals as goal

pub returns : goal.returns
returns c =
    rw (c.in_ok-write_words.ensures, c.in_ok-write_locks.ensures, c.in_ok-write_truth.ensures)
    (simp (append_assoc, c.deref.ensures.value))
