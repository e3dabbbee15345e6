use Rattle.std.proofs.Common.{append_assoc}
use Rattle.ld_json.proofs.quoted.write_control.Goals as goal

pub returns : goal.returns
returns c =
    rw (c.in_ok-write_one-2.ensures, c.in_ok-write_one.ensures, c.in_ok-write_words.ensures)
    (simp (append_assoc, c.hex_digit.ensures, c.hex_digit-2.ensures))
