-- A task without an event changes nothing, and stands behind the others.
use Rattle.std.proofs.Common.{◌≡◌, ◌++◌, ◌∷◌, [], List, length, None, Some, ap, sym, ◌∙◌, rules}
use Rattle.ld_class.specs.Names.{class_of_task, place_of}
use Rattle.ld_replay.specs.Inner.Task.{idle, task_in}
use Rattle.ld_replay.proofs.TasksLemmas.{added-place, in-more, names_of}
use Rattle.ld_replay.proofs.tasks.Tasks.add.Goals as goal

pub returns-in-Ok-clause-same : goal.returns-in-Ok-clause-same
returns-in-Ok-clause-same c of =
    let tasks = c.self.inside.tasks.items in
    let pushed : c.push.new.self.items ≡ tasks ++ idle c.args.name.now ∷ [] = search rules in
    ap (λ ts. task_in ts of) pushed ∙ in-more tasks c.args.name.now of ∙ ap (λ ts. task_in ts of) c.self.view_is

pub returns-in-Ok-clause-place : goal.returns-in-Ok-clause-place
returns-in-Ok-clause-place c =
    let tasks = c.self.inside.tasks.items in
    let pushed : c.push.new.self.items ≡ tasks ++ idle c.args.name.now ∷ [] = search rules in
    let none : place_of (names_of tasks) (class_of_task c.args.name.now) ≡ None =
    ap (λ ts. place_of (names_of ts) (class_of_task c.args.name.now)) c.self.view_is ∙ c.requires in
    let count : length tasks ≡ c.len-count.result = search rules in
    ap (λ ts. place_of (names_of ts) (class_of_task c.args.name.now)) pushed
    ∙ added-place tasks c.args.name.now none
    ∙ ap Some count
