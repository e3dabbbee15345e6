use Rattle.std.proofs.Common.{◌≡◌, All, length, nat_eq, take, true}
use Rattle.std.specs.List.{list_any}
use Rattle.ld_facts.specs.Inner.Scan.{names_at}
use Rattle.ld_facts.specs.Inner.Kept.{AreNames}
use Rattle.ld_batch.specs.Inner.Names.{with_names}
use Rattle.ld_facts.proofs.batch_rows.add_named.Given as goal

abbrev pub invariant-loop-number : goal.invariant-loop-number
invariant-loop-number l = record {
  counted : l.before ≡ length l.fn.names;
  made : l.names ≡ with_names l.fn.names (names_at l.known (take l.number-index l.own));
  same : AreNames l.known l.numbers l.names;
  there : All (λ n. list_any (nat_eq n) l.numbers ≡ true) (take l.number-index l.own);
  front : take (length l.fn.numbers) l.numbers ≡ l.fn.numbers;
  first : take (length l.fn.names) l.names ≡ l.fn.names;
}
