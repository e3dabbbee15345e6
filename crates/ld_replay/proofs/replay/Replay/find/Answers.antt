-- The line is the next one, or no line is left.
use Rattle.std.proofs.Common.{◌≡◌, None, ap, sym, subst, ◌∙◌, rules}
use Rattle.ld_trace.specs.Events.{positions}
use Rattle.ld_replay.specs.HeldAt.{before_line}
use Rattle.ld_replay.specs.Inner.Task.{IsAfter}
use Rattle.ld_replay.proofs.ReplayLemmas.{none-before, open-before, some-before}
use Rattle.ld_replay.proofs.TasksLemmas.{name-in}
use Rattle.ld_replay.proofs.replay.Replay.find.Goals as goal

pub returns-in_default-clause-before : goal.returns-in_default-clause-before
returns-in_default-clause-before c source is =
    let at = c.go_to.new.self in
    let none : c.first_event.result ≡ None = search rules in
    none-before source at.number at.rest.now at.place at.tasks (c.in_ok-go_to.ensures.replay source is) c.args.line c.in_ok-go_to.ensures.bound c.in_ok-go_to.ensures.reached
    c.first_event.result c.first_event.ensures none

pub returns-clause-before : goal.returns-clause-before
returns-clause-before c source is =
    let at = c.go_to.new.self in (
      some-before source at.number at.rest.now at.place at.tasks (c.in_ok-go_to.ensures.replay source is) c.args.line c.in_ok-go_to.ensures.bound c.in_ok-go_to.ensures.reached
          c.first_event.result c.first_event.ensures c.in-Some.event c.in-Some.is,
      record {
        name = ap (λ t. t.name) c.in_ok-task.ensures ∙ name-in at.tasks c.task_of.result.now ∙ c.task_of.ensures;
        after =
            subst (IsAfter (before_line (positions source) c.args.line)) (sym c.in_ok-task.ensures)
            (open-before source at.number at.rest.now at.place at.tasks (c.in_ok-go_to.ensures.replay source is) c.args.line c.in_ok-go_to.ensures.bound c.in_ok-go_to.ensures.reached
            c.task_of.result.now);
      },
    )
