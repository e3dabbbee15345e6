use Rattle.std.proofs.Common.{append_assoc}
use Rattle.ld_json.specs.Json.{frame_json}
use Rattle.ld_json.proofs.places.write_frame.Goals as goal

pub returns : goal.returns
unfolding frame_json
returns c =
    rw (c.in_ok-write_words-2.ensures, c.in_ok-write_source_line.ensures, c.in_ok-write_text-2.ensures, c.in_ok-write_text.ensures, c.in_ok-write_words.ensures)
    (simp (append_assoc, c.deref.ensures.value, c.deref-2.ensures.value))
