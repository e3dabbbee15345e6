use Rattle.std.proofs.Common.{◌≡◌, ◌+◌, drop, length, take}
use Rattle.ld_batch.specs.Inner.Names.{AreThere, IsLonger, with_names}
use Rattle.ld_batch.proofs.names.intern_all.Given as goal

abbrev pub invariant-loop-id : goal.invariant-loop-id
invariant-loop-id l = record {
  made : l.names ≡ with_names l.fn.names (take l.id (drop l.first l.more));
  counted : l.count ≡ length l.fn.names;
  longer : IsLonger l.fn.names l.names l.id;
  there : AreThere l.names (take (l.first + l.id) l.more);
}
