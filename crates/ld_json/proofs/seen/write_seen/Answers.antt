use Rattle.std.proofs.Common.{append_assoc}
use Rattle.ld_json.specs.Json.{seen_members}
use Rattle.ld_json.proofs.seen.write_seen.Goals as goal

pub returns : goal.returns
unfolding seen_members
returns c =
    rw (c.in_ok-write_handlers.ensures, c.in_ok-write_all_held.ensures, c.in_ok-write_text.ensures, c.in_ok-write_line.ensures)
    (simp (append_assoc, c.deref.ensures.value, c.deref-2.ensures.value))
