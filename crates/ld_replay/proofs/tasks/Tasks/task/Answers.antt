-- What is found by a name is the first task that has it.
use Rattle.std.proofs.Common.{◌≡◌, ap, sym, ◌∙◌, subst, rules, [], None, Some}
use Rattle.std.proofs.lemmas.List.{get_or_default}
use Rattle.ld_class.specs.Names.{IsNameAt, class_of_task, place_of}
use Rattle.ld_replay.specs.Inner.Task.{idle, task_in}
use Rattle.ld_replay.proofs.TasksLemmas.{IsFirst, at, first-of, in-at, in-none, names_of}
use Rattle.ld_replay.proofs.tasks.Tasks.task.Goals as goal

pub returns-in-Some : goal.returns-in-Some
returns-in-Some c =
    let tasks = c.self.inside.tasks.items in
    let first : IsFirst tasks c.args.name.now c.in-Some.id =
    first-of tasks c.args.name.now c.in-Some.id (ap (λ ns. place_of ns (class_of_task c.args.name.now)) (sym c.self.invariant) ∙ sym c.in-Some.ensures.place) in
    let here : c.index.result.now ≡ task_in c.args.self.now c.args.name.now =
    c.index.ensures ∙ get_or_default tasks c.in-Some.id c.index.result.now (idle []) first.within
    ∙ sym (in-at tasks c.args.name.now c.in-Some.id first)
    ∙ ap (λ ts. task_in ts c.args.name.now) c.self.view_is in
    search (rules, here)

pub returns-in-None : goal.returns-in-None
returns-in-None c =
    let tasks = c.self.inside.tasks.items in
    let none : task_in tasks c.args.name.now ≡ idle c.args.name.now =
    in-none tasks c.args.name.now (λ i is.
    let known : IsNameAt c.self.inside.names i (class_of_task c.args.name.now) = subst (λ ns. IsNameAt ns i (class_of_task c.args.name.now)) (sym c.self.invariant) is in
    let found : None ≡ Some i = (c.in-None.ensures.exact i).1 known in cc) in
    c.new.ensures ∙ sym none ∙ ap (λ ts. task_in ts c.args.name.now) c.self.view_is
