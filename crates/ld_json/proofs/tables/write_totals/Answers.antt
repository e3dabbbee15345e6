use Rattle.std.proofs.Common.{append_assoc}
use Rattle.ld_json.specs.Json.{totals_line}
use Rattle.ld_json.proofs.tables.write_totals.Goals as goal

pub returns : goal.returns
unfolding totals_line
returns c =
    rw (c.in_ok-write_words.ensures, c.in_ok-write_number-5.ensures, c.in_ok-write_number-4.ensures, c.in_ok-write_number-3.ensures, c.in_ok-write_number-2.ensures, c.in_ok-write_number.ensures)
    (simp append_assoc)
