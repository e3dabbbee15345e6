use Rattle.std.proofs.Common.{append_assoc}
use Rattle.ld_json.specs.Json.{violation_line}
use Rattle.ld_json.proofs.violations.write_violation.Goals as goal

pub returns : goal.returns
unfolding violation_line
returns c =
    rw (c.in_ok-write_rest.ensures, c.in_ok-write_common.ensures, c.in_ok-write_numbers_of.ensures, c.in_ok-write_members.ensures, c.in_ok-write_state_member.ensures, c.in_ok-write_words.ensures, c.in_ok-write_kind.ensures)
    (simp append_assoc)
