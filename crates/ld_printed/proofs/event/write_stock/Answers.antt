use Rattle.std.proofs.Common.{append_assoc}
use Rattle.ld_printed.proofs.event.write_stock.Goals as goal

pub returns : goal.returns
returns c =
    rw (c.in_ok-extend_from_slice.ensures.items, c.in_ok-write_words-3.ensures, c.in_ok-write_words-2.ensures, c.in_ok-write_words.ensures, c.in_ok-write_hex.ensures)
    (simp (append_assoc, c.words_if.ensures, c.words_if-2.ensures))
