-- The lines of the tasks so far are written.
use Rattle.std.proofs.Common.{◌≡◌, ◌++◌, take}
use Rattle.ld_cut.specs.Inner.Kept.{text_of_tasks}
use Rattle.ld_cut.proofs.tasks.Tasks.write.Given as goal

abbrev pub invariant-loop-task : goal.invariant-loop-task
invariant-loop-task l = l.text.items ≡ l.fn.text.items ++ text_of_tasks (take l.task-index l.task-items)
