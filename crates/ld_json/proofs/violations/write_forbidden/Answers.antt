use Rattle.std.proofs.Common.{append_assoc}
use Rattle.ld_json.proofs.violations.write_forbidden.Goals as goal

pub returns : goal.returns
returns c =
    rw (c.in_ok-write_classes.ensures, c.in_ok-write_end-2.ensures, c.in_ok-write_end.ensures)
    (simp (append_assoc, c.end_at-safe.ensures, c.end_at-exposed.ensures, c.deref.ensures.value))
