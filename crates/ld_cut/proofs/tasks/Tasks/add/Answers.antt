-- A task without an event changes nothing, and stands behind the others.
use Rattle.std.proofs.Common.{◌≡◌, ◌++◌, ◌∷◌, [], All, List, length, None, Some, ap, sym, subst, ◌∙◌, rules}
use Rattle.std.proofs.lemmas.List.Elements.{All-push}
use Rattle.ld_class.specs.Names.{class_of_task, place_of}
use Rattle.ld_cut.specs.Inner.Kept.{IsTold, new_task, task_in}
use Rattle.ld_cut.proofs.FrontLemmas.{told-new}
use Rattle.ld_cut.proofs.TasksLemmas.{added-place, in-more, names_of}
use Rattle.ld_cut.proofs.tasks.Tasks.add.Goals as goal

pub returns-in-Ok-clause-same : goal.returns-in-Ok-clause-same
returns-in-Ok-clause-same c of =
    let tasks = c.self.inside.tasks.items in
    let pushed : c.push.new.self.items ≡ tasks ++ new_task c.args.name.now ∷ [] = search rules in
    ap (λ ts. task_in ts of) pushed ∙ in-more tasks c.args.name.now of ∙ ap (λ ts. task_in ts of) c.self.view_is

pub returns-in-Ok-clause-told : goal.returns-in-Ok-clause-told
returns-in-Ok-clause-told c =
    let tasks = c.self.inside.tasks.items in
    let pushed : c.push.new.self.items ≡ tasks ++ new_task c.args.name.now ∷ [] = search rules in
    subst (λ ts. All IsTold ts) (sym pushed) (All-push IsTold tasks (new_task c.args.name.now) (subst (λ ts. All IsTold ts) (sym c.self.view_is) c.requires.told) (told-new c.args.name.now))

pub returns-in-Ok-clause-place : goal.returns-in-Ok-clause-place
returns-in-Ok-clause-place c =
    let tasks = c.self.inside.tasks.items in
    let pushed : c.push.new.self.items ≡ tasks ++ new_task c.args.name.now ∷ [] = search rules in
    let none : place_of (names_of tasks) (class_of_task c.args.name.now) ≡ None =
    ap (λ ts. place_of (names_of ts) (class_of_task c.args.name.now)) c.self.view_is ∙ c.requires.new in
    let count : length tasks ≡ c.len-count.result = search rules in
    ap (λ ts. place_of (names_of ts) (class_of_task c.args.name.now)) pushed
    ∙ added-place tasks c.args.name.now none
    ∙ ap Some count
