-- A verb, a task and a state, with single blanks, are an event.
use Rattle.std.proofs.Common.{◌≡◌, ◌∷◌, ◌++◌, Some, Ok, rules, ◌∙◌, ap, sym, subst}
use Rattle.ld_trace.specs.Events.{PlainEvent, plain_event}
use Rattle.ld_trace.specs.First.{IsFirstSaid}
use Rattle.ld_trace.proofs.StateLemmas.{event_of_state, said-state}
use Rattle.ld_trace.proofs.fast.next_state_event.Goals as goal
use Rattle.ld_trace.proofs.fast.next_state_event.Goals.{in-Enter, in-Exit, in-Enable, in-Disable}

pub returns : goal.returns
returns c =
    let task = c.in_ok-task.task.now in
    let state = c.in_ok-state.state in
    let rest = c.in_ok-rest.rest.now in
    let blank : c.in_ok-task.after.now ≡ 32 ∷ c.in_ok-after.after.now = search rules in
    let told = said-state c.in_ok-verb.verb task state c.args.bytes.now c.in_ok-verb.after.now c.in_ok-after.after.now c.in_ok-state.after.now rest
    c.in_ok-verb.ensures (c.in_ok-task.ensures.whole ∙ ap (λ o. task ++ o) blank) c.in_ok-task.ensures.spelled c.in_ok-state.ensures c.in_ok-rest.ensures in
    let P : PlainEvent → Type 0 = λ event. IsFirstSaid c.args.bytes.now (Ok (Some event)) rest in
    elim c.match-verb.branch [
      | in-Enter w ↦ subst P (ap (λ verb. event_of_state verb task state) w.in-Enter.is ∙ ap plain_event (sym w.event-is)) told
      | in-Exit w ↦ subst P (ap (λ verb. event_of_state verb task state) w.in-Exit.is ∙ ap plain_event (sym w.event-is)) told
      | in-Enable w ↦ subst P (ap (λ verb. event_of_state verb task state) w.in-Enable.is ∙ ap plain_event (sym w.event-is)) told
      | in-Disable w ↦ subst P (ap (λ verb. event_of_state verb task state) w.in-Disable.is ∙ ap plain_event (sym w.event-is)) told
    ]
