use Rattle.std.proofs.Common.{append_assoc}
use Rattle.ld_json.proofs.violations.write_conflict.Goals as goal

pub returns : goal.returns
returns c =
    rw (c.in_ok-write_use.ensures, c.in_ok-write_end.ensures)
    (simp (append_assoc, c.end_at-safe.ensures, c.end_at-exposed.ensures))
