-- An event changes the task that it is of alone.
use Rattle.std.proofs.Common.{◌≡◌, List, [], ℕ, Result, Ok, Err, OnOk, Some, ap, set, sym, ◌∙◌}
use Rattle.std.proofs.lemmas.List.{get_or_default}
use Rattle.ld_trace.specs.Events.{plain_event}
use Rattle.ld_class.specs.Names.{class_of_task, place_of}
use Rattle.ld_rules.specs.Frames.{task_of}
use Rattle.ld_replay.specs.Inner.Task.{idle, stepped, task_in}
use Rattle.ld_replay.proofs.TasksLemmas.{IsFirst, at, first-of, names-set, names_of, stepped-in}
use Rattle.ld_replay.proofs.tasks.Tasks.step.Goals as goal

on : {T E A B : Type 0} (r : Result T E) → (A → B) → OnOk r A → OnOk r B
on (Ok x) f h = f h
on (Err e) f h = h

pub invariant_of-self : goal.invariant_of-self
invariant_of-self c =
    let tasks = c.self.inside.tasks.items in
    let first : IsFirst tasks c.task_of.result.now c.in_ok-id.id =
    first-of tasks c.task_of.result.now c.in_ok-id.id
    (ap (λ ts. place_of (names_of ts) (class_of_task c.task_of.result.now)) c.self.view_is ∙ c.in_ok-id.ensures.place) in
    let item : c.index_mut.result.now ≡ at tasks c.in_ok-id.id =
    c.index_mut.ensures.value ∙ get_or_default tasks c.in_ok-id.id c.index_mut.result.now (idle []) first.within in
    c.self.invariant ∙ sym (names-set tasks c.in_ok-id.id c.step.new.self (c.step.ensures.name ∙ ap (λ t. t.name) item))

pub returns : goal.returns
returns c =
    let tasks = c.self.inside.tasks.items in
    let e = plain_event c.args.event in
    let named : place_of (names_of tasks) (class_of_task (task_of e)) ≡ Some c.in_ok-id.id =
    ap (λ n. place_of (names_of tasks) (class_of_task n)) (sym c.task_of.ensures)
    ∙ ap (λ ts. place_of (names_of ts) (class_of_task c.task_of.result.now)) c.self.view_is ∙ c.in_ok-id.ensures.place in
    let first : IsFirst tasks (task_of e) c.in_ok-id.id = first-of tasks (task_of e) c.in_ok-id.id named in
    let item : c.index_mut.result.now ≡ at tasks c.in_ok-id.id =
    c.index_mut.ensures.value ∙ get_or_default tasks c.in_ok-id.id c.index_mut.result.now (idle []) first.within in
    on c.step.result
    (λ next name.
    ap (λ t. task_in (set tasks c.in_ok-id.id t) name) (next ∙ ap (λ t. stepped t e c.args.place c.args.line) item)
    ∙ stepped-in tasks e c.in_ok-id.id c.args.place c.args.line first name
    ∙ ap (λ t. stepped t e c.args.place c.args.line) (ap (λ ts. task_in ts name) c.self.view_is ∙ c.place.ensures.same name))
    c.step.ensures.next
