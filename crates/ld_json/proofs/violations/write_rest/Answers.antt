use Rattle.std.proofs.Common.{append_assoc}
use Rattle.ld_json.specs.Json.{rest_of}
use Rattle.ld_json.proofs.violations.write_rest.Goals as goal

pub returns : goal.returns
unfolding rest_of
returns c =
    rw (c.in_ok-write_words.ensures, c.in_ok-write_text.ensures, c.in_ok-write_number_member-2.ensures, c.in_ok-write_number_member.ensures)
    (simp append_assoc)
