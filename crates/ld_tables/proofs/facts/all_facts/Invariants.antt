use Rattle.std.proofs.Common.{◌≡◌, take}
use Rattle.ld_tables.specs.Inner.Edges.{edges_of}
use Rattle.ld_tables.proofs.facts.all_facts.Given as goal

abbrev pub invariant-loop-telling : goal.invariant-loop-telling
invariant-loop-telling l = l.facts.items ≡ edges_of (take l.telling-index l.tellings)
