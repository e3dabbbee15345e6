-- An event changes the task that it is of alone.
use Rattle.std.proofs.Common.{◌≡◌, List, [], ℕ, All, Result, Ok, Err, OnOk, Some, ap, set, sym, subst, ◌∙◌}
use Rattle.std.proofs.lemmas.List.{get_or_default}
use Rattle.std.proofs.lemmas.List.Elements.{All-set}
use Rattle.ld_trace.specs.Events.{plain_event}
use Rattle.ld_class.specs.Names.{class_of_task, place_of}
use Rattle.ld_rules.specs.Frames.{task_of}
use Rattle.ld_cut.specs.State.{after_any}
use Rattle.ld_cut.specs.Inner.Kept.{IsTold, KeptTask, new_task, stands, task_in}
use Rattle.ld_cut.proofs.TasksLemmas.{IsFirst, at, first-of, names-set, names_of, stand-in}
use Rattle.ld_cut.proofs.tasks.Tasks.step.Goals as goal

on : {T E A B : Type 0} (r : Result T E) → (A → B) → OnOk r A → OnOk r B
on (Ok x) f h = f h
on (Err e) f h = h

pub invariant_of-self : goal.invariant_of-self
invariant_of-self c =
    let tasks = c.self.inside.tasks.items in
    let first : IsFirst tasks c.task_of.result.now c.in_ok-id.id =
    first-of tasks c.task_of.result.now c.in_ok-id.id
    (ap (λ ts. place_of (names_of ts) (class_of_task c.task_of.result.now)) c.self.view_is ∙ c.in_ok-id.ensures.place) in
    let item : c.index_mut.result.now ≡ at tasks c.in_ok-id.id =
    c.index_mut.ensures.value ∙ get_or_default tasks c.in_ok-id.id c.index_mut.result.now (new_task []) first.within in
    c.self.invariant ∙ sym (names-set tasks c.in_ok-id.id c.step.new.self (c.step.ensures.name ∙ ap (λ (t : KeptTask). t.name) item))

pub returns : goal.returns
returns c =
    let tasks = c.self.inside.tasks.items in
    let e = plain_event c.args.event in
    let named : place_of (names_of tasks) (class_of_task (task_of e)) ≡ Some c.in_ok-id.id =
    ap (λ n. place_of (names_of tasks) (class_of_task n)) (sym c.task_of.ensures)
    ∙ ap (λ ts. place_of (names_of ts) (class_of_task c.task_of.result.now)) c.self.view_is ∙ c.in_ok-id.ensures.place in
    let first : IsFirst tasks (task_of e) c.in_ok-id.id = first-of tasks (task_of e) c.in_ok-id.id named in
    let item : c.index_mut.result.now ≡ at tasks c.in_ok-id.id =
    c.index_mut.ensures.value ∙ get_or_default tasks c.in_ok-id.id c.index_mut.result.now (new_task []) first.within in
    record {
      next = on c.step.result
          (λ next of.
          stand-in tasks e c.in_ok-id.id first c.step.new.self (c.step.ensures.name ∙ ap (λ (t : KeptTask). t.name) item)
          (next ∙ ap (λ (t : KeptTask). after_any t.name (stands t) e) item) of
          ∙ ap (λ t. after_any of (stands t) e) (ap (λ ts. task_in ts of) c.self.view_is ∙ c.place.ensures.same of))
          c.step.ensures.next;
      told = on c.step.result
          (λ told. All-set IsTold tasks c.in_ok-id.id c.step.new.self told (subst (λ ts. All IsTold ts) (sym c.self.view_is) c.place.ensures.told))
          c.step.ensures.told;
    }
