use Rattle.std.proofs.Common.{◌≡◌, ℕ, ◌<◌, ◌≤◌, ◌+◌, ◌-◌, ◌++◌, suc, true, false, List, [], map, length, take, drop, get_or, remove, set, sym, ap, subst, ◌∙◌, arith}
use Rattle.std.proofs.lemmas.List.{length-drop, length-map}
use Rattle.std.specs.List.{list_any}
use Rattle.ld_trace.specs.Events.{PlainLock, plain_lock}
use Rattle.ld_tables.specs.Inner.Edges.{edges_of}
use Rattle.ld_tables.specs.declared.edges.EdgeFact.{EdgeFact}
use Rattle.ld_tables.specs.declared.held.Held.{Held}
use Rattle.ld_tables.specs.Inner.Interrupts.{fresh, start_now}
use Rattle.ld_tables.specs.Inner.Locks.{HeldByTasks, hold_of, is_of, held_by_tasks}
use Rattle.ld_tables.specs.Inner.Stacks.{PlainStack, empty_stack, holds, inner, plain_held}
use Rattle.ld_rules.specs.Inner.Scanned.{remove_last}
use Rattle.ld_tables.proofs.StackLemmas.{part_is}
use Rattle.ld_tables.proofs.LockLemmas.{any_shown, cut_shown, none_gone, removed_some, hold_gone, holds_shown, interrupts_shown}
use Rattle.ld_tables.proofs.locks.Locks.let_go.Goals as goal

-- what the search says of the innermost frame, as the fields show it
module _ {before : List EdgeFact} (stacks : List PlainStack) (edges : List EdgeFact) (known : HeldByTasks) (task : ℕ) (lock : PlainLock) (held : List Held) (start : ℕ)
    (is : held_by_tasks stacks edges before ≡ known) (same : map plain_held held ≡ (get_or stacks task empty_stack).held) (starts : start ≡ start_now (get_or stacks task empty_stack).interrupts) where
  abbrev stack : PlainStack
  stack = get_or stacks task empty_stack

  abbrev part : List Held
  part = take (length held - start) (drop start held)

  shown : map plain_held part ≡ inner stack
  shown = part_is stack held start same starts

  abbrev from : ℕ
  from = start_now (get_or known.interrupts task fresh)

  none_held : list_any (holds lock) (map plain_held part) ≡ false → list_any (is_of lock) (drop from (get_or known.stacks task [])) ≡ false
  none_held none = any_shown stacks edges known task lock is ∙ ap (list_any (holds lock)) (sym shown) ∙ none

  module _ (place : ℕ) (inside : place < length part) (last : remove (map plain_held part) place ≡ remove_last (holds lock) (map plain_held part)) where
    taken : remove (inner stack) place ≡ remove_last (holds lock) (inner stack)
    taken = subst (λ xs. remove xs place ≡ remove_last (holds lock) xs) shown last

    within : place < length (inner stack)
    within = subst (λ n. place < n) (sym (length-map part plain_held) ∙ ap length shown) inside

    was_held : true ≡ list_any (is_of lock) (drop from (get_or known.stacks task []))
    was_held = sym (any_shown stacks edges known task lock is ∙ removed_some lock (inner stack) place within taken)

    low : start_now stack.interrupts ≤ start + place
    low = omega (arith, starts)

    high : start + place < length stack.held
    high = omega (arith, within, starts, length-drop (start_now stack.interrupts) stack.held)

    -- the locks before and after it
    gone : map hold_of (take (start + place) stack.held) ++ map hold_of (drop (suc (start + place)) stack.held) ≡ take from
        (get_or known.stacks task []) ++ remove_last (is_of lock) (drop from (get_or known.stacks task []))
    gone =
        ap (λ s. map hold_of (take (s + place) stack.held) ++ map hold_of (drop (suc (s + place)) stack.held)) starts
        ∙ hold_gone lock stack.held (start_now stack.interrupts) place taken
        ∙ (λ i. take (start_now (interrupts_shown stacks edges known task is i)) (holds_shown stacks edges known task is i) ++ remove_last
        (is_of lock) (drop (start_now (interrupts_shown stacks edges known task is i)) (holds_shown stacks edges known task is i)))

pub returns-in_default-clause-held : goal.returns-in_default-clause-held
returns-in_default-clause-held c =
    sym (none_held c.self.inside.stacks (edges_of c.self.inside.edges.tellings) c.args.self.now c.args.task (plain_lock c.args.lock) c.held-held.result.now
    c.start-start.result c.self.view_is c.held-held.ensures.held (c.start-start.ensures ∙ ap start_now c.context.ensures) c.in_default.ensures.none)

pub returns-in_default-clause-stacks : goal.returns-in_default-clause-stacks
returns-in_default-clause-stacks c =
    none_gone c.args.self.now c.args.task (start_now (get_or c.args.self.now.interrupts c.args.task fresh)) (plain_lock c.args.lock)
    (none_held c.self.inside.stacks (edges_of c.self.inside.edges.tellings) c.args.self.now c.args.task (plain_lock c.args.lock) c.held-held.result.now
    c.start-start.result c.self.view_is c.held-held.ensures.held (c.start-start.ensures ∙ ap start_now c.context.ensures) c.in_default.ensures.none)

pub take_out-requires-clause-inner : goal.take_out-requires-clause-inner
take_out-requires-clause-inner c =
    subst (λ interrupts. start_now interrupts ≤ c.start-start.result + c.in-Some.place)
    (interrupts_shown c.self.inside.stacks (edges_of c.self.inside.edges.tellings) c.args.self.now c.args.task c.self.view_is)
    (low c.self.inside.stacks (edges_of c.self.inside.edges.tellings) c.args.self.now c.args.task (plain_lock c.args.lock) c.held-held.result.now c.start-start.result
    c.self.view_is c.held-held.ensures.held (c.start-start.ensures ∙ ap start_now c.context.ensures) c.in-Some.place c.in-Some.ensures.place c.in-Some.ensures.last)

pub take_out-requires-clause-held : goal.take_out-requires-clause-held
take_out-requires-clause-held c =
    subst (λ n. c.start-start.result + c.in-Some.place < n)
    (sym (length-map (get_or c.self.inside.stacks c.args.task empty_stack).held hold_of)
    ∙ ap length (holds_shown c.self.inside.stacks (edges_of c.self.inside.edges.tellings) c.args.self.now c.args.task c.self.view_is))
    (high c.self.inside.stacks (edges_of c.self.inside.edges.tellings) c.args.self.now c.args.task (plain_lock c.args.lock) c.held-held.result.now c.start-start.result
    c.self.view_is c.held-held.ensures.held (c.start-start.ensures ∙ ap start_now c.context.ensures) c.in-Some.place c.in-Some.ensures.place c.in-Some.ensures.last)

pub returns-clause-held : goal.returns-clause-held
returns-clause-held c =
    was_held c.self.inside.stacks (edges_of c.self.inside.edges.tellings) c.args.self.now c.args.task (plain_lock c.args.lock) c.held-held.result.now c.start-start.result
    c.self.view_is c.held-held.ensures.held (c.start-start.ensures ∙ ap start_now c.context.ensures) c.in-Some.place c.in-Some.ensures.place c.in-Some.ensures.last

pub returns-clause-stacks : goal.returns-clause-stacks
returns-clause-stacks c =
    c.take_out.ensures
    ∙ ap (λ hs. record c.args.self.now { stacks = set c.args.self.now.stacks c.args.task hs })
    (sym (cut_shown c.self.inside.stacks (edges_of c.self.inside.edges.tellings) c.args.self.now c.args.task c.self.view_is (c.start-start.result + c.in-Some.place))
    ∙ gone c.self.inside.stacks (edges_of c.self.inside.edges.tellings) c.args.self.now c.args.task (plain_lock c.args.lock) c.held-held.result.now c.start-start.result
    c.self.view_is c.held-held.ensures.held (c.start-start.ensures ∙ ap start_now c.context.ensures) c.in-Some.place c.in-Some.ensures.place c.in-Some.ensures.last)
