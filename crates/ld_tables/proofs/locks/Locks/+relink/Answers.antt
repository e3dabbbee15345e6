use Rattle.std.proofs.Common.{◌≡◌, ◌<◌, [], List, ℕ, ap, get_or, length, map, subst, sym, take, ◌∙◌, arith}
use Rattle.std.proofs.lemmas.List.{length-map}
use Rattle.ld_tables.specs.Inner.Edges.{edges_of}
use Rattle.ld_tables.specs.declared.edges.EdgeFact.{EdgeFact}
use Rattle.ld_tables.specs.declared.held.Held.{Held}
use Rattle.ld_tables.specs.Inner.Chains.{chains_of}
use Rattle.ld_tables.specs.Inner.Interrupts.{fresh, start_now}
use Rattle.ld_tables.specs.Inner.Locks.{HeldByTasks, hold_of, held_by_tasks}
use Rattle.ld_tables.specs.Inner.Stacks.{PlainStack, empty_stack, plain_held}
use Rattle.ld_rules.specs.declared.outcome.TheConstants.{MOST_HELD}
use Rattle.ld_tables.proofs.LockLemmas.{held_shown, interrupts_shown}
use Rattle.ld_tables.proofs.TopLemmas.{fewer, held_again, room_again, stays_within, tied}
use Rattle.ld_tables.proofs.RoomLemmas.{some_task_then}
use Rattle.ld_tables.proofs.locks.Locks.+relink.Goals as goal
use Rattle.ld_tables.proofs.locks.Locks.+relink.Goals.{then-is_unlinked+in_ok-relink, else-is_unlinked}

-- the last lock is of the innermost frame
inner_below : {before : List EdgeFact} (stacks : List PlainStack) (edges : List EdgeFact) (known : HeldByTasks) (task : ℕ) (held : List Held) → held_by_tasks stacks edges before ≡ known →
    map plain_held held ≡ (get_or stacks task empty_stack).held → start_now (get_or known.interrupts task fresh) < length (get_or known.stacks task []) →
    start_now (get_or stacks task empty_stack).interrupts < length held
inner_below stacks edges known task held is same inner =
    subst (λ interrupts. start_now interrupts < length held) (sym (interrupts_shown stacks edges known task is))
    (subst (λ n. start_now (get_or known.interrupts task fresh) < n)
    (sym (ap length (held_shown stacks edges known task is held same)) ∙ length-map held (λ (h : Held). hold_of (plain_held h))) inner)

pub invariant_of-self : goal.invariant_of-self
invariant_of-self t c = record {
  tied = tied c.self.inside.stacks (edges_of c.self.inside.edges.tellings) c.args.self.now c.args.task c.held-held.result.now c.self.view_is c.held-held.ensures.held
      (inner_below c.self.inside.stacks (edges_of c.self.inside.edges.tellings) c.args.self.now c.args.task c.held-held.result.now c.self.view_is c.held-held.ensures.held c.requires.inner)
      c.requires.task c.truncate.new.self c.truncate.ensures
      (chains_of c.self.inside.chains.links) c.self.inside.told c.self.invariant.tied;
  start = c.self.invariant.start;
  masked = c.self.invariant.masked;
  room = λ none _ _. some_task_then c.self.inside.stacks (edges_of c.self.inside.edges.tellings) c.args.self.now c.args.task c.self.view_is c.requires.task c.truncate.new.self _ c.truncate.ensures none;
}

pub relink-requires : goal.relink-requires
relink-requires t c = (
  (let shrinks = fewer c.self.inside.stacks (edges_of c.self.inside.edges.tellings) c.args.self.now c.args.task c.held-held.result.now c.self.view_is c.held-held.ensures.held
      (inner_below c.self.inside.stacks (edges_of c.self.inside.edges.tellings) c.args.self.now c.args.task c.held-held.result.now c.self.view_is c.held-held.ensures.held c.requires.inner)
      c.requires.task c.truncate.new.self c.truncate.ensures in omega (arith, shrinks, c.decreases)),
  (
    stays_within c.self.inside.stacks (edges_of c.self.inside.edges.tellings) c.args.self.now c.args.task c.held-held.result.now c.self.view_is c.held-held.ensures.held
        (inner_below c.self.inside.stacks (edges_of c.self.inside.edges.tellings) c.args.self.now c.args.task c.held-held.result.now c.self.view_is c.held-held.ensures.held c.requires.inner)
        c.requires.task c.truncate.new.self c.truncate.ensures,
    c.if-is_unlinked.ensures,
  ),
)

pub hold-requires-clause-room : goal.hold-requires-clause-room
hold-requires-clause-room t c =
    let unchanged : c.if-is_unlinked.self ≡ held_by_tasks c.truncate.new.self (edges_of c.self.inside.edges.tellings) (edges_of (take c.self.inside.before.edges c.self.inside.edges.tellings)) =
    elim c.if-is_unlinked.branch [ then-is_unlinked+in_ok-relink w ↦ w.self-is ∙ w.in_ok-relink.ensures.same | else-is_unlinked w ↦ w.self-is ] in
    room_again c.self.inside.stacks (edges_of c.self.inside.edges.tellings) c.args.self.now c.args.task c.held-held.result.now c.self.view_is c.held-held.ensures.held
    (inner_below c.self.inside.stacks (edges_of c.self.inside.edges.tellings) c.args.self.now c.args.task c.held-held.result.now c.self.view_is c.held-held.ensures.held c.requires.inner)
    c.requires.task c.truncate.new.self c.truncate.ensures
    c.if-is_unlinked.self unchanged MOST_HELD c.held-held.ensures.depth

pub returns-clause-same : goal.returns-clause-same
returns-clause-same t c =
    let unchanged : c.if-is_unlinked.self ≡ held_by_tasks c.truncate.new.self (edges_of c.self.inside.edges.tellings) (edges_of (take c.self.inside.before.edges c.self.inside.edges.tellings)) =
    elim c.if-is_unlinked.branch [ then-is_unlinked+in_ok-relink w ↦ w.self-is ∙ w.in_ok-relink.ensures.same | else-is_unlinked w ↦ w.self-is ] in
    held_again c.self.inside.stacks (edges_of c.self.inside.edges.tellings) c.args.self.now c.args.task c.held-held.result.now c.self.view_is c.held-held.ensures.held
    (inner_below c.self.inside.stacks (edges_of c.self.inside.edges.tellings) c.args.self.now c.args.task c.held-held.result.now c.self.view_is c.held-held.ensures.held c.requires.inner)
    c.requires.task c.truncate.new.self c.truncate.ensures
    c.if-is_unlinked.self unchanged c.hold.result _ c.hold.new.self c.hold.ensures.held
