use Rattle.std.proofs.Common.{◌∙◌, ap, get_or}
use Rattle.ld_tables.specs.Inner.Interrupts.{start_now}
use Rattle.ld_tables.specs.Inner.Stacks.{empty_stack}
use Rattle.ld_tables.proofs.StackLemmas.{part_is}
use Rattle.ld_tables.proofs.held.Stacks.innermost.Goals as goal

pub returns-clause-held : goal.returns-clause-held
returns-clause-held c =
    part_is (get_or c.args.self.now c.args.task empty_stack) c.held.result.now c.start-start.result c.held.ensures.held (c.start-start.ensures ∙ ap start_now c.context.ensures)
