use Rattle.std.proofs.Common.{append_assoc}
use Rattle.ld_printed.proofs.event.write_stock_release.Goals as goal

pub returns : goal.returns
returns c =
    rw (c.in_ok-write_words.ensures, c.in_ok-write_hex.ensures)
    (simp append_assoc)
