-- What the line says is what the tasks do.
use Rattle.std.proofs.Common.{◌≡◌, ◌∙◌, Result, Ok, Err, OnOk, Some, ap, fold, rules, sym}
use Rattle.std.specs.Option.{option_to_list}
use Rattle.ld_trace.specs.Lines.{text_of}
use Rattle.ld_trace.specs.Events.{Said, plain_event, said_by}
use Rattle.ld_cut.specs.State.{after_any, event_said}
use Rattle.ld_cut.specs.Inner.Kept.{stands, task_in}
use Rattle.ld_cut.proofs.tasks.Tasks.pass_line.Goals as goal

on : {T E A B : Type 0} (r : Result T E) → (A → B) → OnOk r A → OnOk r B
on (Ok x) f h = f h
on (Err e) f h = h

pub returns-in-Ok-Some-clause-next : goal.returns-in-Ok-Some-clause-next
returns-in-Ok-Some-clause-next c =
    let said : said_by (text_of c.args.line.now) ≡ Ok (Some (plain_event c.in-Ok-Some.event)) = search rules in
    on c.step.result
    (λ next of. next of ∙ ap (λ (s : Said). fold (after_any of) (stands (task_in c.args.self.now of)) (option_to_list (event_said s))) (sym said))
    c.step.ensures.next
