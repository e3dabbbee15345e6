-- What changes is what an event of the task itself does.
use Rattle.std.proofs.Common.{◌≡◌, Result, Ok, Err, OnOk, rules}
use Rattle.ld_trace.specs.Events.{plain_event}
use Rattle.ld_rules.specs.Frames.{task_of}
use Rattle.ld_cut.proofs.StepLemmas.{changed-after, changed-told}
use Rattle.ld_cut.proofs.task.Task.step.Goals as goal

on : {T E A B : Type 0} (r : Result T E) → (A → B) → OnOk r A → OnOk r B
on (Ok x) f h = f h
on (Err e) f h = h

pub returns-clause-next : goal.returns-clause-next
returns-clause-next c =
    let own : c.args.self.now.name ≡ task_of (plain_event c.args.event) = search rules in
    on c.change.result (λ is. changed-after c.args.self.now (plain_event c.args.event) c.args.line.now c.change.new.self own is) c.change.ensures.next

pub returns-clause-told : goal.returns-clause-told
returns-clause-told c =
    let own : c.args.self.now.name ≡ task_of (plain_event c.args.event) = search rules in
    on c.change.result
    (λ is. changed-told c.args.self.now (plain_event c.args.event) c.args.line.now c.change.new.self c.requires.told c.requires.one c.requires.says own is)
    c.change.ensures.next
