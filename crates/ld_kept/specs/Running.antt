-- What runs where an event is recorded.
use Rattle.std.specs.Prelude.{Bool, not, Option, Some, None, if◌then◌else◌}
use Rattle.ld_kernel.specs.declared.event.Context.{Context}
use Rattle.ld_kept.specs.declared.running.Running.{Running}

-- *Running*: a stream has nothing of an NMI's handler. A flag is on if its interrupts aren't disabled.
abbrev pub running_of : Context → Option Running
running_of context =
    if context.in_nmi then None
    else Some (record {
      in_soft = context.in_soft;
      in_hard = context.in_hard;
      hard = not context.hard_off;
      soft = not context.soft_off;
    })
