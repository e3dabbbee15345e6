use Rattle.std.proofs.Common.{append_assoc}
use Rattle.ld_json.specs.Json.{said_members}
use Rattle.ld_json.proofs.places.write_said.Goals as goal

pub returns : goal.returns
unfolding said_members
returns c =
    rw (c.in_ok-write_place.ensures, c.in_ok-write_text.ensures)
    (simp append_assoc)
