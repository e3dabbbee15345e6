use Rattle.std.proofs.Common.{◌≡◌, List, [], fold, get_or, map, ap, sym, ◌∙◌}
use Rattle.std.proofs.lemmas.Result.{on_ok_weaker}
use Rattle.std.proofs.lemmas.Simd.{map-map}
use Rattle.ld_tables.specs.declared.held.Held.{Held}
use Rattle.ld_tables.specs.declared.uses.UsageFact.{UsageFact}
use Rattle.ld_tables.specs.Inner.Locks.{Hold, hold_of}
use Rattle.ld_tables.specs.Inner.Stacks.{plain_held}
use Rattle.ld_tables.specs.Inner.Uses.{on_facts, with_use}
use Rattle.ld_facts.proofs.scan.Scan.count_held.Goals as goal

pub returns-clause-counted : goal.returns-clause-counted
returns-clause-counted c = on_ok_weaker c.held.result
    (λ counted. ap (λ (uses : List UsageFact). record {
      tasks = c.args.self.now.tasks;
      classes = c.args.self.now.classes;
      own = c.args.self.now.own;
      locks = c.args.self.now.locks;
      uses = uses;
      before = c.args.self.now.before;
    })
    (counted ∙ (λ i. fold with_use c.args.self.now.uses (on_facts (c.interrupts.ensures i) c.args.line (classes i)))))
    c.held.ensures.uses
  where
    classes : map (λ (held : Held). held.class) c.held-held.result.now ≡ map (λ (hold : Hold). hold.class) (get_or c.args.self.now.locks.stacks c.args.task [])
    classes = sym (map-map (λ (hold : Hold). hold.class) (λ (held : Held). hold_of (plain_held held)) c.held-held.result.now) ∙ ap (map (λ hold. hold.class)) c.held-held.ensures
