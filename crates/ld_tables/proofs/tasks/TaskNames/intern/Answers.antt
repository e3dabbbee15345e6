use Rattle.std.proofs.Common.{◌≡◌, ◌∙◌, [], Some, ap, subst, sym}
use Rattle.std.proofs.lemmas.Slice.Eq.{bytes_eq-Decides}
use Rattle.std.specs.Str.{bytes_eq}
use Rattle.ld_class.specs.Names.{IsTaskAt, place_of_task, with_task}
use Rattle.ld_class.proofs.AnyNames.{first_place-Some, with_one-known}
use Rattle.ld_tables.specs.Inner.Tasks.{AreTasksAmong, tasks_at}
use Rattle.ld_tables.specs.declared.tasks.TheConstants.{MOST_KNOWN_TASKS}
use Rattle.ld_tables.proofs.TaskLemmas.{added, nothing-learned, place-learned, tasks-added}
use Rattle.ld_tables.proofs.tasks.TaskNames.intern.Goals as goal

-- of a task of the trace nothing was learned
known-still : (c : goal.In-Some) → c.learn.new.known ≡ c.self.inside.known
known-still c =
    nothing-learned MOST_KNOWN_TASKS c.self.inside.known c.self.inside.here c.self.invariant c.args.name.now
    c.learn.new.known c.in_ok-number.ensures.names c.in_ok-number.number c.in_ok-number.ensures.place
    c.in-Some.place (sym c.place_of_number.ensures.place ∙ c.in-Some.is)

-- and its place is that of its number
stands : (c : goal.In-Some) → place_of_task c.args.self.now c.args.name.now ≡ Some c.in-Some.place
stands c =
    ap (λ tasks. place_of_task tasks c.args.name.now) (sym c.self.view_is)
    ∙ place-learned MOST_KNOWN_TASKS c.self.inside.known c.self.inside.here c.self.invariant c.args.name.now
    c.learn.new.known c.in_ok-number.ensures.names c.in_ok-number.number c.in_ok-number.ensures.place
    ∙ sym c.place_of_number.ensures.place ∙ c.in-Some.is

same : (c : goal.In-Some) → tasks_at c.learn.new.known c.self.inside.here ≡ c.args.self.now
same c = ap (λ known. tasks_at known c.self.inside.here) (known-still c) ∙ c.self.view_is

pub invariant_of-self-in-Some : goal.invariant_of-self-in-Some
invariant_of-self-in-Some c =
    subst (λ known. AreTasksAmong MOST_KNOWN_TASKS known c.self.inside.here) (sym (known-still c)) c.self.invariant

pub returns-in-Some-clause-names : goal.returns-in-Some-clause-names
returns-in-Some-clause-names c =
    same c ∙ sym (with_one-known bytes_eq [] bytes_eq-Decides c.args.self.now c.args.name.now c.in-Some.place (stands c))

pub returns-in-Some-clause-place : goal.returns-in-Some-clause-place
returns-in-Some-clause-place c =
    subst (λ tasks. IsTaskAt tasks c.in-Some.place c.args.name.now) (sym (same c))
    (first_place-Some bytes_eq [] bytes_eq-Decides c.args.self.now c.args.name.now c.in-Some.place (stands c))

pub invariant_of-self-2 : goal.invariant_of-self-2
invariant_of-self-2 c =
    subst (AreTasksAmong MOST_KNOWN_TASKS c.learn.new.known) (sym c.in_default-add.ensures.added)
    (added MOST_KNOWN_TASKS c.self.inside.known c.self.inside.here c.self.invariant c.args.name.now
    c.learn.new.known c.in_ok-number.ensures.names c.in_ok-number.number c.in_ok-number.ensures.place)

pub returns-clause-names : goal.returns-clause-names
returns-clause-names c =
    ap (tasks_at c.learn.new.known) c.in_default-add.ensures.added
    ∙ tasks-added MOST_KNOWN_TASKS c.self.inside.known c.self.inside.here c.self.invariant c.args.name.now
    c.learn.new.known c.in_ok-number.ensures.names c.in_ok-number.number c.in_ok-number.ensures.place
    (sym c.place_of_number.ensures.place ∙ c.in_default.is)
    ∙ ap (λ tasks. with_task tasks c.args.name.now) c.self.view_is
