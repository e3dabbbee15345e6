use Rattle.std.proofs.Common.{◌<◌, [], ap, get_or, length, subst, sym, ◌∙◌}
use Rattle.std.proofs.lemmas.List.{length-map}
use Rattle.std.specs.Bool.{OnTrue}
use Rattle.ld_tables.specs.Inner.Edges.{edges_of}
use Rattle.ld_tables.specs.declared.held.Held.{Held}
use Rattle.ld_tables.specs.Inner.Interrupts.{start_now}
use Rattle.ld_tables.specs.Inner.Locks.{hold_of}
use Rattle.ld_tables.specs.Inner.Stacks.{plain_held}
use Rattle.ld_tables.proofs.LockLemmas.{held_shown, interrupts_shown}
use Rattle.ld_tables.proofs.locks.Locks.is_unlinked.Goals as goal

pub returns : goal.returns
returns c =
    let stacks = c.self.inside.stacks in
    let edges = (edges_of c.self.inside.edges.tellings) in
    let held = c.held.result.now in
    let start = c.start-start.ensures ∙ ap start_now (c.context.ensures ∙ interrupts_shown stacks edges c.args.self.now c.args.task c.self.view_is) in
    let many = sym (length-map held (λ (h : Held). hold_of (plain_held h))) ∙ ap length (held_shown stacks edges c.args.self.now c.args.task c.self.view_is held c.held.ensures.held) in
    subst (λ k. OnTrue c.is_unlinked.result (k < length (get_or c.args.self.now.stacks c.args.task []))) start
    (subst (λ n. OnTrue c.is_unlinked.result (c.start-start.result < n)) many c.is_unlinked.ensures)
