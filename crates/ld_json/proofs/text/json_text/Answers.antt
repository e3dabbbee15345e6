use Rattle.std.proofs.Common.{append_assoc}
use Rattle.ld_json.specs.Json.{json_text}
use Rattle.ld_json.proofs.text.json_text.Goals as goal

pub returns : goal.returns
unfolding json_text
returns c = record {
  text = rw (c.in_ok-write_count.ensures, c.in_ok-write_groups.ensures, c.in_ok-write_violations.ensures, c.in_ok-write_ends.ensures, c.in_ok-write_dependencies.ensures, c.in_ok-write_all_refused.ensures, c.in_ok-write_totals.ensures)
      (simp (append_assoc, c.new-out.ensures.items, c.deref.ensures.value, c.deref-2.ensures.value, c.deref-3.ensures.value, c.deref-4.ensures.value, c.deref-5.ensures.value, c.deref-6.ensures.value));
}
