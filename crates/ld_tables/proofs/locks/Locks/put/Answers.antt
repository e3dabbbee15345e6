use Rattle.std.proofs.Common.{◌∷◌, [], ◌++◌, List, None, get_or, sym, ap, subst, ◌∙◌, refl, take, arith}
use Rattle.std.proofs.lemmas.List.{map-append}
use Rattle.ld_tables.specs.Inner.Edges.{edges_of}
use Rattle.ld_tables.specs.Inner.Stacks.{PlainHeld, empty_stack}
use Rattle.ld_trace.specs.Events.{plain_lock}
use Rattle.ld_tables.specs.Inner.Chains.{chains_of}
use Rattle.ld_tables.specs.Inner.Locks.{AreTied, Hold, hold_of, held_by_tasks}
use Rattle.ld_tables.proofs.LockLemmas.{holds_at, shown_held, tied_push, within_shown}
use Rattle.ld_tables.proofs.RoomLemmas.{some_task_then}
use Rattle.ld_tables.proofs.locks.Locks.put.Goals as goal

pub invariant_of-self : goal.invariant_of-self
invariant_of-self c = record {
  tied =
      let held : PlainHeld = record { lock = plain_lock c.args.lock; class = c.args.class; chain = None } in
      let chains = chains_of c.self.inside.chains.links in
      subst (λ ss. AreTied ss chains c.self.inside.told (edges_of c.self.inside.edges.tellings)) (sym c.push.ensures)
      (tied_push c.self.inside.stacks chains c.self.inside.told (edges_of c.self.inside.edges.tellings) c.self.invariant.tied c.args.task held
      (within_shown c.self.inside.stacks (edges_of c.self.inside.edges.tellings) c.args.self.now c.args.task c.self.view_is c.requires.task) chains
      (record { more = omega arith; kept = λ n within. refl }) tt);
  start = c.self.invariant.start;
  masked = c.self.invariant.masked;
  room = λ none _ _. some_task_then c.self.inside.stacks (edges_of c.self.inside.edges.tellings) c.args.self.now c.args.task c.self.view_is c.requires.task c.push.new.self _ c.push.ensures none;
}

pub returns : goal.returns
returns c =
    let held : PlainHeld = record { lock = plain_lock c.args.lock; class = c.args.class; chain = None } in
    let before = (get_or c.self.inside.stacks c.args.task empty_stack).held in
    ap (λ ss. held_by_tasks ss (edges_of c.self.inside.edges.tellings) (edges_of (take c.self.inside.before.edges c.self.inside.edges.tellings))) c.push.ensures
    ∙ shown_held c.self.inside.stacks (edges_of c.self.inside.edges.tellings) c.args.self.now c.args.task c.self.view_is (before ++ held ∷ []) (get_or c.args.self.now.stacks c.args.task [] ++ hold_of held ∷ [])
    (map-append hold_of before (held ∷ []) ∙ ap (λ (hs : List Hold). hs ++ hold_of held ∷ [])
    (sym (holds_at c.self.inside.stacks c.args.task) ∙ ap (λ k. get_or k.stacks c.args.task []) c.self.view_is))
