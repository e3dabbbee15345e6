use Rattle.std.proofs.Common.{◌≡◌, List, ap, ◌∙◌, fold, length, map, take}
use Rattle.ld_tables.specs.declared.uses.UsageFact.{UsageFact}
use Rattle.ld_tables.specs.Inner.Uses.{same_fact, use_at, with_use}
use Rattle.ld_tables.proofs.FirstLemmas.{with_each-first}
use Rattle.ld_tables.proofs.uses.Uses.add_each.Goals as goal

-- what was there stands before what was added in turn
first : (old new more : List UsageFact) → new ≡ fold with_use old more → take (length old) new ≡ old
first old new more is = ap (take (length old)) is ∙ with_each-first same_fact old more

pub returns-in_err-add-clause-first : goal.returns-in_err-add-clause-first
returns-in_err-add-clause-first c = first c.args.self.now c.add.new.self (map (use_at c.args.bit c.args.line)
    (map (λ held. held.class) (take c.loop-held.held-index c.args.stack.now))) (c.in_err-add.ensures.refused ∙ c.loop-held.invariant)

pub returns-clause-first : goal.returns-clause-first
returns-clause-first c = first c.args.self.now c.loop-held.self (map (use_at c.args.bit c.args.line) (map (λ held. held.class) (take c.loop-held.held-index c.args.stack.now))) c.loop-held.invariant
