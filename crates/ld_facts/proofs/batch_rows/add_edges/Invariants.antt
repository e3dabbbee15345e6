use Rattle.std.proofs.Common.{◌≡◌, ◌+◌, ◌-◌, ◌≤◌, ◌++◌, length, map, take, vec_len, vec_capacity}
use Rattle.ld_facts.specs.Inner.Rows.{word_of}
use Rattle.ld_facts.proofs.batch_rows.add_edges.Given as goal

abbrev pub invariant-loop-telling : goal.invariant-loop-telling
invariant-loop-telling l = record {
  words : l.words.items ≡ l.fn.words.items ++ map (word_of l.number) (take l.telling-index l.tellings);
  spare : vec_len l.words + (length l.tellings - l.telling-index) ≤ vec_capacity l.words;
}
