use Rattle.std.proofs.Common.{append_assoc}
use Rattle.ld_printed.proofs.line.write_lost.Goals as goal

pub returns : goal.returns
returns c =
    rw (c.in_ok-write_words-2.ensures, c.in_ok-write_count.ensures, c.in_ok-write_words.ensures, c.in_ok-write_number.ensures)
    (simp append_assoc)
