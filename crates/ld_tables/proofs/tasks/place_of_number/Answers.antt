use Rattle.std.proofs.Common.{◌≡◌, false, nat_eq, rules, sym}
use Rattle.std.specs.List.{list_any}
use Rattle.ld_tables.proofs.TaskLemmas.{position-absent}
use Rattle.ld_tables.proofs.tasks.place_of_number.Goals as goal

pub returns-then-not-has-clause-place : goal.returns-then-not-has-clause-place
returns-then-not-has-clause-place c =
    let absent : list_any (nat_eq c.args.number) c.args.here.now ≡ false = search rules in
    sym (position-absent c.args.number c.args.here.now absent)
