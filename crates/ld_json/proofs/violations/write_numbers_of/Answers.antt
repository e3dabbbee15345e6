use Rattle.std.proofs.Common.{append_assoc}
use Rattle.ld_json.specs.Json.{numbers_of}
use Rattle.ld_json.proofs.violations.write_numbers_of.Goals as goal

pub returns : goal.returns
unfolding numbers_of
returns c =
    rw (c.in_ok-write_numbers.ensures, c.in_ok-write_number-2.ensures, c.in_ok-write_number.ensures, c.in_ok-write_at.ensures)
    (simp (append_assoc, c.deref.ensures.value))
