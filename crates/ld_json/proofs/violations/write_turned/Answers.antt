use Rattle.std.proofs.Common.{append_assoc}
use Rattle.ld_json.proofs.violations.write_turned.Goals as goal

pub returns : goal.returns
returns c =
    rw (c.in_ok-write_classes.ensures, c.in_ok-write_first.ensures, c.in_ok-write_class.ensures)
    (simp append_assoc)
