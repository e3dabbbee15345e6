use Rattle.std.proofs.Common.{append_assoc}
use Rattle.ld_json.specs.Json.{group_line}
use Rattle.ld_json.proofs.ends.write_group.Goals as goal

pub returns : goal.returns
unfolding group_line
returns c =
    rw (c.in_ok-write_words.ensures, c.in_ok-write_shared.ensures, c.in_ok-write_numbers.ensures, c.in_ok-write_number.ensures)
    (simp (append_assoc, c.deref.ensures.value))
