use Rattle.std.proofs.Common.{append_assoc}
use Rattle.ld_printed.proofs.line.write_event.Goals as goal

pub returns : goal.returns
returns c =
    rw (c.in_ok-write_words.ensures, c.in_ok-write_what.ensures, c.in_ok-write_place.ensures)
    (simp append_assoc)
