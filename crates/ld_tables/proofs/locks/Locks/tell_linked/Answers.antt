use Rattle.std.proofs.Common.{◌≡◌, ◌<◌, ◌∷◌, [], ◌++◌, List, ℕ, Option, Some, Result, Ok, Err, OnOk, refl, fold, get_or, length, map, sym, ap, subst, ◌∙◌, take, arith}
use Rattle.std.proofs.lemmas.Bool.{eqb-true}
use Rattle.ld_tables.specs.declared.edges.EdgeFact.{EdgeFact}
use Rattle.ld_tables.specs.declared.held.Held.{Held}
use Rattle.ld_tables.specs.declared.locks.LocksStart.{LocksStart}
use Rattle.ld_tables.specs.Inner.Stacks.{PlainStack, empty_stack, inner}
use Rattle.ld_tables.specs.Inner.Chains.{KeptChains, chains_of}
use Rattle.ld_tables.specs.Inner.Edges.{AreToldTo, KeptEdges, edge_to, edges_of, with_edge_fact}
use Rattle.ld_tables.specs.Inner.Locks.{AreTied, Hold, IsAtStart, IsChain, IsChainIfAny, IsExtended, IsKept, Tells, classes_held, inner_of}
use Rattle.ld_tables.proofs.BeforeLemmas.{before_extended, before_more, before_same, before_told}
use Rattle.ld_tables.proofs.LockLemmas.{classes_shown, known_told, numbered, numbered_as, start_within, tied_extended, tied_more, tied_told, told_now, told_shown}
use Rattle.ld_tables.proofs.MaskedLemmas.{known_masks, masked_more}
use Rattle.ld_tables.proofs.ToldLemmas.{keeps-first, tells-exact, told-to}
use Rattle.ld_tables.specs.declared.masks.NewEdges.{NewEdges}
use Rattle.ld_tables.proofs.RoomLemmas.{some_task}
use Rattle.ld_tables.proofs.locks.Locks.tell_linked.Goals as goal

pub innermost-stack-requires-clause-start : goal.innermost-stack-requires-clause-start
innermost-stack-requires-clause-start c = start_within c.self.inside.stacks (chains_of c.self.inside.chains.links) c.self.inside.told (edges_of c.self.inside.edges.tellings) c.self.invariant.tied c.args.task

pub linked-requires : goal.linked-requires
linked-requires c =
    numbered_as (chains_of c.self.inside.chains.links) (get_or c.self.inside.stacks c.args.task empty_stack) c.innermost-stack.result.now c.innermost-stack.ensures.held
    (numbered c.self.inside.stacks (chains_of c.self.inside.chains.links) c.self.inside.told (edges_of c.self.inside.edges.tellings) c.self.invariant.tied c.args.task)

-- the chain that was found
found : (chains : List (List ℕ)) (number : Option ℕ) (n : ℕ) (chain : List ℕ) → number ≡ Some n → IsChainIfAny chains number chain → IsChain chains n chain
found chains number n chain some = subst (λ o. IsChainIfAny chains o chain) some

on_ok : {E : Type 0} (r : Result (Unit {0}) E) (A B : Type 0) → (A → OnOk r B) → OnOk r A → OnOk r B
on_ok (Ok u) A B f a = f a
on_ok (Err e) A B f a = tt

-- the masks that a chain gets leave the chains as they are
module _ (linked learned : KeptChains) (same : learned.links ≡ linked.links) where
  more_learned : (old : List (List ℕ)) → IsExtended old (chains_of linked.links) → IsExtended old (chains_of learned.links)
  more_learned old = subst (λ links. IsExtended old (chains_of links)) (sym same)

  within_learned : (chain : ℕ) → chain < length (chains_of linked.links) → chain < length (chains_of learned.links)
  within_learned chain = subst (λ links. chain < length (chains_of links)) (sym same)

  chain_learned : (chain : ℕ) (classes : List ℕ) → get_or (chains_of linked.links) chain [] ≡ classes → get_or (chains_of learned.links) chain [] ≡ classes
  chain_learned chain classes is = ap (λ links. get_or (chains_of links) chain []) same ∙ is

-- once the chain has its number
module _ (stacks : List PlainStack) (chains_before after : KeptChains) (told : List ℕ) (old now : KeptEdges) (before : LocksStart) (kept : IsKept stacks chains_before told old before)
    (more : IsExtended (chains_of chains_before.links) (chains_of after.links)) (same : now.tellings ≡ old.tellings) where
  tied_here : AreTied stacks (chains_of after.links) told (edges_of now.tellings)
  tied_here = subst (λ ts. AreTied stacks (chains_of after.links) told (edges_of ts)) (sym same)
      (tied_extended stacks (chains_of chains_before.links) told (edges_of old.tellings) kept.tied (chains_of after.links) more)

  start_here : IsAtStart before (chains_of after.links) told now.tellings
  start_here = subst (λ ts. IsAtStart before (chains_of after.links) told ts) (sym same)
      (before_extended before (chains_of chains_before.links) told old.tellings kept.start (chains_of after.links) more)

  -- once more is told
  module _ (new : List NewEdges) (first : take (length now.tellings) new ≡ now.tellings) where
    tied_then : AreTied stacks (chains_of after.links) told (edges_of new)
    tied_then = tied_more stacks (chains_of after.links) told (edges_of now.tellings) tied_here (edges_of new) (keeps-first now.tellings new first)

    start_then : IsAtStart before (chains_of after.links) told new
    start_then = before_more before (chains_of after.links) told now.tellings start_here new first

    same_then : edges_of (take before.edges new) ≡ edges_of (take before.edges old.tellings)
    same_then = ap edges_of (before_same before (chains_of after.links) told now.tellings start_here new first ∙ ap (take before.edges) same)

-- the same of classes and dependencies by other names
told_as : (now old new : List EdgeFact) (froms those : List ℕ) (class line : ℕ) → now ≡ old → froms ≡ those → AreToldTo froms class line now new → AreToldTo those class line old new
told_as now old new froms those class line same alike are = subst (λ es. AreToldTo those class line es new) same (subst (λ fs. AreToldTo fs class line now new) alike are)

-- a stack of no lock tells nothing
none_told : (held : List Held) (edges : List EdgeFact) (class line : ℕ) → length held ≡ 0 →
    edges ≡ fold with_edge_fact edges (map (edge_to class line) (map (λ (h : Held). h.class) held))
none_told [] edges class line none = refl
none_told (h ∷ held) edges class line none = absurd (omega (arith, none))

pub returns-then-is_empty-clause-told : goal.returns-then-is_empty-clause-told
returns-then-is_empty-clause-told c =
    let edges = (edges_of c.self.inside.edges.tellings) in
    let held = c.innermost-stack.result.now in
    let stack = get_or c.self.inside.stacks c.args.task empty_stack in
    let ok : Result (Unit {0}) ℕ = Ok tt in
    let empty : length held ≡ 0 = eqb-true (length held) 0 (sym c.is_empty.ensures ∙ c.if-is_empty.true) in
    let froms = map (λ (h : Hold). h.class) (inner_of c.args.self.now c.args.task) in
    subst (Tells froms c.args.class c.args.line c.args.self.now) c.self.view_is
    (told_shown ok c.self.inside.stacks edges c.args.self.now c.args.task c.args.class c.args.line edges c.self.view_is
    (told-to (classes_held (inner stack)) (classes_held (inner stack)) c.args.class c.args.line edges edges (λ n. refl)
    (none_told held edges c.args.class c.args.line empty
    ∙ ap (λ fs. fold with_edge_fact edges (map (edge_to c.args.class c.args.line) fs)) (classes_shown stack held c.innermost-stack.ensures.held)))
    refl)

pub returns-then-has-clause-told : goal.returns-then-has-clause-told
returns-then-has-clause-told c =
    let chains = chains_of c.linked.new.chains.links in
    let stack = get_or c.self.inside.stacks c.args.task empty_stack in
    tells-exact (map (λ (h : Hold). h.class) (inner_of c.args.self.now c.args.task)) c.args.class c.args.line c.args.self.now _
    (c.self.view_is
    ∙ known_told c.self.inside.stacks chains c.self.inside.told (edges_of c.self.inside.edges.tellings)
    (tied_extended c.self.inside.stacks (chains_of c.self.inside.chains.links) c.self.inside.told (edges_of c.self.inside.edges.tellings) c.self.invariant.tied chains c.linked.ensures.more)
    c.args.self.now c.self.view_is c.args.task c.args.class c.args.line c.in-Some.chain
    ((found (chains_of c.linked.new.chains.links) c.in_ok-chain.field-0 c.in-Some.chain (map (λ (h : Held). h.class) c.innermost-stack.result.now ++ c.args.class ∷ []) c.in-Some.is c.in_ok-chain.ensures.chain).1 ∙ ap (λ cs. cs ++ c.args.class ∷ []) (classes_shown stack c.innermost-stack.result.now c.innermost-stack.ensures.held))
    (sym c.has.ensures ∙ c.if-has.true))

pub tell_to-requires-2 : goal.tell_to-requires-2
tell_to-requires-2 c =
    let froms = map (λ (h : Held). h.class) c.innermost-stack.result.now in
    known_masks c.learn.new.edges.words c.args.class froms (get_or c.learn.new.chains.masks c.in-Some.chain _)
    (c.learn.ensures.numbered.each c.in-Some.chain froms c.args.class (within_learned c.linked.new.chains c.learn.new.chains c.learn.ensures.links c.in-Some.chain (found (chains_of c.linked.new.chains.links) c.in_ok-chain.field-0 c.in-Some.chain (map (λ (h : Held). h.class) c.innermost-stack.result.now ++ c.args.class ∷ []) c.in-Some.is c.in_ok-chain.ensures.chain).0)
    (chain_learned c.linked.new.chains c.learn.new.chains c.learn.ensures.links c.in-Some.chain _ (found (chains_of c.linked.new.chains.links) c.in_ok-chain.field-0 c.in-Some.chain (map (λ (h : Held). h.class) c.innermost-stack.result.now ++ c.args.class ∷ []) c.in-Some.is c.in_ok-chain.ensures.chain).1))
    c.masks-known.result c.masks-known.ensures.kept

pub invariant_of-self-in_err-tell_to : goal.invariant_of-self-in_err-tell_to
invariant_of-self-in_err-tell_to c = record {
  tied =
      tied_then c.self.inside.stacks c.self.inside.chains c.learn.new.chains c.self.inside.told c.self.inside.edges c.learn.new.edges c.self.inside.before c.self.invariant
      (more_learned c.linked.new.chains c.learn.new.chains c.learn.ensures.links (chains_of c.self.inside.chains.links) c.linked.ensures.more)
      c.learn.ensures.edges c.tell_to-2.new.self.tellings c.tell_to-2.ensures.first;
  start =
      start_then c.self.inside.stacks c.self.inside.chains c.learn.new.chains c.self.inside.told c.self.inside.edges c.learn.new.edges c.self.inside.before c.self.invariant
      (more_learned c.linked.new.chains c.learn.new.chains c.learn.ensures.links (chains_of c.self.inside.chains.links) c.linked.ensures.more)
      c.learn.ensures.edges c.tell_to-2.new.self.tellings c.tell_to-2.ensures.first;
  masked = masked_more (chains_of c.learn.new.chains.links) c.learn.new.chains.masks c.learn.new.edges.words c.tell_to-2.new.self.words c.tell_to-2.ensures.more
      c.learn.ensures.numbered;
  room = λ none _ _. some_task c.self.inside.stacks (edges_of c.self.inside.edges.tellings) c.args.self.now c.args.task c.self.view_is c.requires none;
}

pub invariant_of-self-2 : goal.invariant_of-self-2
invariant_of-self-2 c =
    let chains = chains_of c.learn.new.chains.links in
    let new = c.tell_to-2.new.self.tellings in
    let tied = tied_then c.self.inside.stacks c.self.inside.chains c.learn.new.chains c.self.inside.told c.self.inside.edges c.learn.new.edges c.self.inside.before
    c.self.invariant (more_learned c.linked.new.chains c.learn.new.chains c.learn.ensures.links (chains_of c.self.inside.chains.links) c.linked.ensures.more)
    c.learn.ensures.edges new c.tell_to-2.ensures.first in
    let start = start_then c.self.inside.stacks c.self.inside.chains c.learn.new.chains c.self.inside.told c.self.inside.edges c.learn.new.edges c.self.inside.before
    c.self.invariant (more_learned c.linked.new.chains c.learn.new.chains c.learn.ensures.links (chains_of c.self.inside.chains.links) c.linked.ensures.more)
    c.learn.ensures.edges new c.tell_to-2.ensures.first in
    let here = tied_here c.self.inside.stacks c.self.inside.chains c.learn.new.chains c.self.inside.told c.self.inside.edges c.learn.new.edges c.self.inside.before
    c.self.invariant (more_learned c.linked.new.chains c.learn.new.chains c.learn.ensures.links (chains_of c.self.inside.chains.links) c.linked.ensures.more) c.learn.ensures.edges in
    record {
      tied =
          tied_told c.self.inside.stacks chains c.self.inside.told (edges_of new) tied c.add.result c.in-Some.chain c.add.new.self
          (told_now c.self.inside.stacks chains c.self.inside.told (edges_of c.learn.new.edges.tellings) here (map (λ (h : Held). h.class) c.innermost-stack.result.now)
          c.args.class c.args.line c.in-Some.chain (edges_of new) (within_learned c.linked.new.chains c.learn.new.chains c.learn.ensures.links c.in-Some.chain (found (chains_of c.linked.new.chains.links) c.in_ok-chain.field-0 c.in-Some.chain (map (λ (h : Held). h.class) c.innermost-stack.result.now ++ c.args.class ∷ []) c.in-Some.is c.in_ok-chain.ensures.chain).0)
          (chain_learned c.linked.new.chains c.learn.new.chains c.learn.ensures.links c.in-Some.chain _ (found (chains_of c.linked.new.chains.links) c.in_ok-chain.field-0 c.in-Some.chain (map (λ (h : Held). h.class) c.innermost-stack.result.now ++ c.args.class ∷ []) c.in-Some.is c.in_ok-chain.ensures.chain).1) c.in_ok-tell_to.ensures.told)
          c.add.ensures.added c.add.ensures.refused;
      start = before_told c.self.inside.before chains c.self.inside.told new start c.add.result c.in-Some.chain c.add.new.self c.add.ensures.added c.add.ensures.refused;
      masked = masked_more chains c.learn.new.chains.masks c.learn.new.edges.words c.tell_to-2.new.self.words c.tell_to-2.ensures.more c.learn.ensures.numbered;
      room = λ none _ _. some_task c.self.inside.stacks (edges_of c.self.inside.edges.tellings) c.args.self.now c.args.task c.self.view_is c.requires none;
    }

pub returns-clause-told : goal.returns-clause-told
returns-clause-told c =
    let stack = get_or c.self.inside.stacks c.args.task empty_stack in
    told_shown c.add.result c.self.inside.stacks (edges_of c.self.inside.edges.tellings) c.args.self.now c.args.task c.args.class c.args.line (edges_of c.tell_to-2.new.self.tellings) c.self.view_is
    (told_as (edges_of c.learn.new.edges.tellings) (edges_of c.self.inside.edges.tellings) (edges_of c.tell_to-2.new.self.tellings) (map (λ (h : Held). h.class) c.innermost-stack.result.now) (classes_held (inner stack)) c.args.class c.args.line
    (ap edges_of c.learn.ensures.edges) (classes_shown stack c.innermost-stack.result.now c.innermost-stack.ensures.held) c.in_ok-tell_to.ensures.told)
    (same_then c.self.inside.stacks c.self.inside.chains c.learn.new.chains c.self.inside.told c.self.inside.edges c.learn.new.edges c.self.inside.before c.self.invariant
    (more_learned c.linked.new.chains c.learn.new.chains c.learn.ensures.links (chains_of c.self.inside.chains.links) c.linked.ensures.more)
    c.learn.ensures.edges c.tell_to-2.new.self.tellings c.tell_to-2.ensures.first)

-- and where the chain isn't known
pub invariant_of-self-in_default : goal.invariant_of-self-in_default
invariant_of-self-in_default c =
    let chains = c.linked.new.chains in
    let edges = c.self.inside.edges in
    record {
      tied = tied_then c.self.inside.stacks c.self.inside.chains chains c.self.inside.told edges edges c.self.inside.before c.self.invariant c.linked.ensures.more refl
          c.tell_to.new.self.tellings c.tell_to.ensures.first;
      start = start_then c.self.inside.stacks c.self.inside.chains chains c.self.inside.told edges edges c.self.inside.before c.self.invariant c.linked.ensures.more refl
          c.tell_to.new.self.tellings c.tell_to.ensures.first;
      masked = masked_more (chains_of chains.links) chains.masks edges.words c.tell_to.new.self.words c.tell_to.ensures.more
          (c.linked.ensures.numbered edges.words c.self.invariant.masked);
      room = λ none _ _. some_task c.self.inside.stacks (edges_of c.self.inside.edges.tellings) c.args.self.now c.args.task c.self.view_is c.requires none;
    }

pub returns-in_default-clause-told : goal.returns-in_default-clause-told
returns-in_default-clause-told c =
    let stack = get_or c.self.inside.stacks c.args.task empty_stack in
    on_ok c.tell_to.result _ _
    (λ told. told_shown c.tell_to.result c.self.inside.stacks (edges_of c.self.inside.edges.tellings) c.args.self.now c.args.task c.args.class c.args.line (edges_of c.tell_to.new.self.tellings) c.self.view_is
    (told_as (edges_of c.self.inside.edges.tellings) (edges_of c.self.inside.edges.tellings) (edges_of c.tell_to.new.self.tellings) (map (λ (h : Held). h.class) c.innermost-stack.result.now) (classes_held (inner stack)) c.args.class c.args.line
    refl (classes_shown stack c.innermost-stack.result.now c.innermost-stack.ensures.held) told)
    (same_then c.self.inside.stacks c.self.inside.chains c.linked.new.chains c.self.inside.told c.self.inside.edges c.self.inside.edges c.self.inside.before c.self.invariant
    c.linked.ensures.more refl c.tell_to.new.self.tellings c.tell_to.ensures.first))
    c.tell_to.ensures.told
