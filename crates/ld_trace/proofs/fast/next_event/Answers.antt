-- A verb, a task and a lock, with single blanks, are an event.
use Rattle.std.proofs.Common.{◌≡◌, ◌∷◌, ◌++◌, Some, Ok, refl, rules, ◌∙◌, ap, sym, subst}
use Rattle.ld_trace.specs.Events.{PlainEvent, plain_event, plain_lock}
use Rattle.ld_trace.specs.First.{IsFirstSaid}
use Rattle.ld_trace.proofs.FrontLemmas.{ends-after}
use Rattle.ld_trace.proofs.PlainLemmas.{event_of, said-plain}
use Rattle.ld_trace.proofs.fast.next_event.Goals as goal
use Rattle.ld_trace.proofs.fast.next_event.Goals.{in-Acquire, in-Try, in-Release}

pub returns : goal.returns
returns c =
    let task = c.in_ok-task.task.now in
    let lock = plain_lock c.in_ok-lock.lock in
    let rest = c.in_ok-lock.rest.now in
    let blank : c.in_ok-task.after.now ≡ 32 ∷ c.in_ok-after.after.now = search rules in
    let told = said-plain c.in_ok-verb.verb task lock c.args.bytes.now c.in_ok-verb.after.now c.in_ok-after.after.now rest
    c.in_ok-verb.ensures (c.in_ok-task.ensures.whole ∙ ap (λ o. task ++ o) blank) c.in_ok-task.ensures.spelled c.in_ok-lock.ensures in
    let P : PlainEvent → Type 0 = λ event. IsFirstSaid c.args.bytes.now (Ok (Some event)) rest in
    elim c.match-verb.branch [
      | in-Acquire w ↦ subst P (ap (λ verb. event_of verb task lock) w.in-Acquire.is ∙ ap plain_event (sym w.event-is)) told
      | in-Try w ↦ subst P (ap (λ verb. event_of verb task lock) w.in-Try.is ∙ ap plain_event (sym w.event-is)) told
      | in-Release w ↦ subst P (ap (λ verb. event_of verb task lock) w.in-Release.is ∙ ap plain_event (sym w.event-is)) told
    ]

pub next_lock-requires : goal.next_lock-requires
next_lock-requires c =
    let blank : c.in_ok-task.after.now ≡ 32 ∷ c.in_ok-after.after.now = search rules in
    ends-after c.in_ok-verb.after.now c.in_ok-task.task.now c.in_ok-after.after.now 32 _ _ _
    (c.in_ok-task.ensures.whole ∙ ap (λ o. c.in_ok-task.task.now ++ o) blank) refl c.behind.ensures c.of-ends.ensures
