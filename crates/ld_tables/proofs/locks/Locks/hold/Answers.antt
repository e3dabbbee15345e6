use Rattle.std.proofs.Common.{◌∷◌, [], ◌++◌, List, get_or, sym, ap, subst, ◌∙◌, take}
use Rattle.std.proofs.lemmas.List.{map-append}
use Rattle.ld_tables.specs.Inner.Edges.{edges_of}
use Rattle.ld_tables.specs.Inner.Stacks.{PlainHeld, empty_stack}
use Rattle.ld_trace.specs.Events.{plain_lock}
use Rattle.ld_tables.specs.Inner.Chains.{chains_of}
use Rattle.ld_tables.specs.Inner.Locks.{AreTied, Hold, IsChainIfAny, hold_of, held_by_tasks}
use Rattle.ld_tables.proofs.BeforeLemmas.{before_extended}
use Rattle.ld_tables.proofs.LockLemmas.{classes_shown, holds_at, numbered, numbered_as, start_within, tied_push, shown_held, within_shown}
use Rattle.ld_tables.proofs.RoomLemmas.{some_task_then}
use Rattle.ld_tables.proofs.locks.Locks.hold.Goals as goal

pub innermost-stack-requires-clause-start : goal.innermost-stack-requires-clause-start
innermost-stack-requires-clause-start c = start_within c.self.inside.stacks (chains_of c.self.inside.chains.links) c.self.inside.told (edges_of c.self.inside.edges.tellings) c.self.invariant.tied c.args.task

pub linked-requires : goal.linked-requires
linked-requires c =
    numbered_as (chains_of c.self.inside.chains.links) (get_or c.self.inside.stacks c.args.task empty_stack) c.innermost-stack.result.now c.innermost-stack.ensures.held
    (numbered c.self.inside.stacks (chains_of c.self.inside.chains.links) c.self.inside.told (edges_of c.self.inside.edges.tellings) c.self.invariant.tied c.args.task)

pub invariant_of-self-2 : goal.invariant_of-self-2
invariant_of-self-2 c = record {
  tied =
      let held : PlainHeld = record { lock = plain_lock c.args.lock; class = c.args.class; chain = c.in_ok-chain.chain } in
      subst (λ ss. AreTied ss (chains_of c.linked.new.chains.links) c.self.inside.told (edges_of c.self.inside.edges.tellings)) (sym c.push.ensures)
      (tied_push c.self.inside.stacks (chains_of c.self.inside.chains.links) c.self.inside.told (edges_of c.self.inside.edges.tellings) c.self.invariant.tied c.args.task held
      (within_shown c.self.inside.stacks (edges_of c.self.inside.edges.tellings) c.args.self.now c.args.task c.self.view_is c.requires.task) (chains_of c.linked.new.chains.links)
      c.linked.ensures.more
      (subst (λ cs. IsChainIfAny (chains_of c.linked.new.chains.links) c.in_ok-chain.chain (cs ++ c.args.class ∷ []))
      (classes_shown (get_or c.self.inside.stacks c.args.task empty_stack) c.innermost-stack.result.now c.innermost-stack.ensures.held) c.in_ok-chain.ensures.chain));
  start = before_extended c.self.inside.before (chains_of c.self.inside.chains.links) c.self.inside.told c.self.inside.edges.tellings c.self.invariant.start
      (chains_of c.linked.new.chains.links) c.linked.ensures.more;
  masked = c.linked.ensures.numbered c.self.inside.edges.words c.self.invariant.masked;
  room = λ none _ _. some_task_then c.self.inside.stacks (edges_of c.self.inside.edges.tellings) c.args.self.now c.args.task c.self.view_is c.requires.task c.push.new.self _ c.push.ensures none;
}

pub returns-clause-held : goal.returns-clause-held
returns-clause-held c =
    let held : PlainHeld = record { lock = plain_lock c.args.lock; class = c.args.class; chain = c.in_ok-chain.chain } in
    let before = (get_or c.self.inside.stacks c.args.task empty_stack).held in
    ap (λ ss. held_by_tasks ss (edges_of c.self.inside.edges.tellings) (edges_of (take c.self.inside.before.edges c.self.inside.edges.tellings))) c.push.ensures
    ∙ shown_held c.self.inside.stacks (edges_of c.self.inside.edges.tellings) c.args.self.now c.args.task c.self.view_is (before ++ held ∷ []) (get_or c.args.self.now.stacks c.args.task [] ++ hold_of held ∷ [])
    (map-append hold_of before (held ∷ []) ∙ ap (λ (hs : List Hold). hs ++ hold_of held ∷ [])
    (sym (holds_at c.self.inside.stacks c.args.task) ∙ ap (λ k. get_or k.stacks c.args.task []) c.self.view_is))
