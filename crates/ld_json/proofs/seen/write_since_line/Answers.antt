use Rattle.std.proofs.Common.{append_assoc}
use Rattle.ld_json.proofs.seen.write_since_line.Goals as goal

pub returns : goal.returns
returns c =
    rw (c.in_ok-write_words-2.ensures, c.in_ok-write_line.ensures, c.in_ok-write_words.ensures)
    (simp append_assoc)
