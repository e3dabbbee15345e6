use Rattle.std.proofs.Common.{◌≡◌, fold, map, take}
use Rattle.ld_tables.specs.Inner.Uses.{use_at, with_use}
use Rattle.ld_tables.proofs.uses.Uses.add_each.Given as goal

abbrev pub invariant-loop-held : goal.invariant-loop-held
invariant-loop-held l = l.self ≡ fold with_use l.fn.self (map (use_at l.bit l.line) (map (λ held. held.class) (take l.held-index l.stack)))
