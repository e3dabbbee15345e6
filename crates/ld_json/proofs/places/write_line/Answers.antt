use Rattle.std.proofs.Common.{append_assoc}
use Rattle.ld_json.specs.Json.{line_members}
use Rattle.ld_json.proofs.places.write_line.Goals as goal

pub returns : goal.returns
unfolding line_members
returns c =
    rw (c.in_ok-write_said.ensures, c.in_ok-write_at.ensures)
    (simp append_assoc)
