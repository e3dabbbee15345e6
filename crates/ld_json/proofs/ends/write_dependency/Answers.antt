use Rattle.std.proofs.Common.{append_assoc}
use Rattle.ld_json.specs.Json.{dependency_line}
use Rattle.ld_json.proofs.ends.write_dependency.Goals as goal

pub returns : goal.returns
unfolding dependency_line
returns c =
    rw (c.in_ok-write_words.ensures, c.in_ok-write_seen.ensures, c.in_ok-write_class-2.ensures, c.in_ok-write_class.ensures, c.in_ok-write_number.ensures)
    (simp append_assoc)
