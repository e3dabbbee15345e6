use Rattle.std.proofs.Common.{◌≡◌, ◌+◌, ◌-◌, ◌≤◌, ◌++◌, length, map, take, vec_len, vec_capacity}
use Rattle.ld_facts.specs.Inner.Rows.{use_of}
use Rattle.ld_facts.proofs.batch_rows.add_uses.Given as goal

abbrev pub invariant-loop-fact : goal.invariant-loop-fact
invariant-loop-fact l = record {
  rows : l.rows.items ≡ l.fn.rows.items ++ map (use_of l.numbers l.number) (take l.fact-index l.facts);
  spare : vec_len l.rows + (length l.facts - l.fact-index) ≤ vec_capacity l.rows;
}
