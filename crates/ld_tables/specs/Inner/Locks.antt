-- What tasks hold and which dependencies were told, and what ties the cache of chains to them.
-- No contract of a `Batch` cites this file.
use Rattle.std.specs.Prelude.{◌≡◌, ◌<◌, ◌≤◌, ◌+◌, ℕ, Bool, true, List, [], ◌∷◌, ◌++◌, map, length, take}
use Rattle.std.specs.Prelude.{drop, slice_index_or, Option, None, Some, IfSome, option_map}
use Rattle.std.specs.List.{last_or, list_all, list_any, All}
use Rattle.ld_trace.specs.Events.{PlainLock}
use Rattle.ld_tables.specs.declared.edges.EdgeFact.{EdgeFact}
use Rattle.ld_tables.specs.declared.masks.Mask.{Mask}
use Rattle.ld_tables.specs.declared.masks.NewEdges.{NewEdges}
use Rattle.ld_tables.specs.declared.masks.Word.{Word}
use Rattle.ld_tables.specs.declared.edges.TheConstants.{MOST_WORDS}
use Rattle.ld_tables.specs.Inner.Chains.{HasRoom, KeptChains, chain_before, chains_of}
use Rattle.ld_tables.specs.Inner.Edges.{AreMasks, AreToldTo, KeptEdges, edge_to, edges_of, same_pair}
use Rattle.ld_rules.specs.Held.{same_lock}
use Rattle.ld_tables.specs.Inner.Interrupts.{fresh, start_now, starts_of}
use Rattle.ld_tables.specs.Inner.Stacks.{PlainHeld, PlainStack, empty_stack, plain_held}
use Rattle.ld_tables.specs.declared.held.Held.{Held}
use Rattle.ld_tables.specs.declared.locks.LocksStart.{LocksStart}
use Rattle.ld_tables.specs.declared.interrupts.Interrupts.{Interrupts}

-- a lock that a task holds, and the number of its class
pub record Hold : Type 0 where
  pub lock : PlainLock
  pub class : ℕ

abbrev pub hold_of : PlainHeld → Hold
hold_of held = record { lock = held.lock; class = held.class }

-- by the numbers of the tasks, what each holds in all its frames, in order of acquisition, and its
-- frames and flags; and the dependencies so far, and those that there were when the trace began
pub record HeldByTasks : Type 0 where
  pub stacks : List (List Hold)
  pub interrupts : List Interrupts
  pub edges : List EdgeFact
  pub before : List EdgeFact

abbrev pub held_by_tasks : List PlainStack → List EdgeFact → List EdgeFact → HeldByTasks
held_by_tasks stacks edges before = record {
  stacks = map (λ stack. map hold_of stack.held) stacks;
  interrupts = map (λ stack. stack.interrupts) stacks;
  edges = edges;
  before = before;
}

-- what the task holds in its innermost frame, and what it holds in the frames around it
abbrev pub inner_of : HeldByTasks → ℕ → List Hold
inner_of known task =
    drop (start_now (slice_index_or known.interrupts task fresh))
    (slice_index_or known.stacks task [])

abbrev pub outer_of : HeldByTasks → ℕ → List Hold
outer_of known task =
    take (start_now (slice_index_or known.interrupts task fresh))
    (slice_index_or known.stacks task [])

-- nothing but the frames and flags of this task changed
pub record ChangesInterrupts (old new : HeldByTasks) (task : ℕ) : Type 0 where
  pub stacks : new.stacks ≡ old.stacks
  pub edges : new.edges ≡ old.edges
  pub before : new.before ≡ old.before
  pub many : length new.interrupts ≡ length old.interrupts
  pub others : (k : ℕ) → (k ≡ task → ⊥)
      → slice_index_or new.interrupts k fresh ≡ slice_index_or old.interrupts k fresh

-- a lock of the class was waited for at this line, under locks of these: the dependencies are told, and all else is
-- as before
pub record Tells (froms : List ℕ) (class line : ℕ) (old new : HeldByTasks) : Type 0 where
  pub others : new ≡ record old { edges = new.edges }
  pub told : AreToldTo froms class line old.edges new.edges

abbrev pub classes_held : List PlainHeld → List ℕ
classes_held stack = map (λ held. held.class) stack

-- the chain of a stack, where it is known, is that of its last lock; that of an empty one is the empty
-- one
abbrev pub chain_up_to : Option PlainHeld → Option (Option ℕ)
chain_up_to None = Some None
chain_up_to (Some held) = option_map Some held.chain

abbrev pub chain_of : List PlainHeld → Option (Option ℕ)
chain_of stack = chain_up_to (last_or None stack)

-- this number is that of the chain
abbrev pub IsChain : List (List ℕ) → ℕ → List ℕ → Type 0
IsChain chains number chain = (number < length chains) × (slice_index_or chains number [] ≡ chain)

-- this number, if there is one, is that of the chain
abbrev pub IsChainIfAny : List (List ℕ) → Option ℕ → List ℕ → Type 0
IsChainIfAny chains number chain = IfSome number (λ n. IsChain chains n chain)

-- each of the first n locks carries the chain of the classes up to it, or none
abbrev pub AreChainedBelow : List (List ℕ) → List PlainHeld → ℕ → Type 0
AreChainedBelow chains stack n =
    (i : ℕ) (d : PlainHeld) → i < n → i < length stack
    → IsChainIfAny chains (slice_index_or stack i d).chain (take (i + 1) (classes_held stack))

abbrev pub AreChained : List (List ℕ) → List PlainHeld → Type 0
AreChained chains stack = AreChainedBelow chains stack (length stack)

-- the chain of a stack, where it is known, is the list of its classes
pub record IsNumbered (chains : List (List ℕ)) (stack : List PlainHeld) : Type 0 where
  pub known : IfSome (chain_of stack) (λ before. IfSome before (λ n. n < length chains))
  pub chain : IfSome (chain_of stack) (λ before. chain_before chains before ≡ classes_held stack)

-- the locks of each frame are chained by themselves, where the frames' locks begin at these places
-- of the stack, innermost first
abbrev pub AreChainedIn : List (List ℕ) → List PlainHeld → List ℕ → Type 0
AreChainedIn chains stack [] = AreChained chains stack
AreChainedIn chains stack (start ∷ starts) =
    (start ≤ length stack)
    × (AreChained chains (drop start stack) × AreChainedIn chains (take start stack) starts)

-- chains keep their numbers as more are met
pub record IsExtended (old new : List (List ℕ)) : Type 0 where
  pub more : length old ≤ length new
  pub kept : (n : ℕ) → n < length old → slice_index_or new n [] ≡ slice_index_or old n []

-- the dependencies of the last class of this chain are there, from each class before it
pub record HasItsEdges (chains : List (List ℕ)) (edges : List EdgeFact) (number : ℕ) : Type 0 where
  pub known : number < length chains
  pub told : (froms : List ℕ) (class : ℕ)
      → slice_index_or chains number [] ≡ froms ++ class ∷ []
      → list_all (λ from. list_any (same_pair (edge_to class 0 from)) edges) froms ≡ true

-- where the masks of a chain are kept, they are those of the dependencies of its last class
pub record HasItsMasks (chains : List (List ℕ)) (masks : List (Option (List Mask)))
    (words : List Word) : Type 0 where
  pub each : (n : ℕ) (froms : List ℕ) (class : ℕ) → n < length chains
      → slice_index_or chains n [] ≡ froms ++ class ∷ []
      → IfSome (slice_index_or masks n None) (AreMasks words class froms)

-- what ties stacks, chains and what was told
pub record AreTied (stacks : List PlainStack) (chains : List (List ℕ)) (told : List ℕ)
    (edges : List EdgeFact) : Type 0 where
  pub chained : (task : ℕ)
      → AreChainedIn chains (slice_index_or stacks task empty_stack).held
      (starts_of (slice_index_or stacks task empty_stack).interrupts)
  pub complete : All (λ number. HasItsEdges chains edges number) told

-- of what was there when the trace began, the dependencies of each chain that was told are there too
pub record IsAtStart (before : LocksStart) (chains : List (List ℕ)) (told : List ℕ)
    (tellings : List NewEdges) : Type 0 where
  pub edges_within : before.edges ≤ length tellings
  pub told_within : before.told ≤ length told
  pub complete :
      All (λ number. HasItsEdges chains (edges_of (take before.edges tellings)) number) (take before.told told)

-- there may be one more chain, the masks of one more may be kept, and one more word may have a number
pub record IsRoomy (chains : KeptChains) (edges : KeptEdges) : Type 0 where
  pub chain : HasRoom chains
  pub word : length edges.words < MOST_WORDS

-- what ties all that is kept; and while there is no task, and nothing was told, there is room
pub record IsKept (stacks : List PlainStack) (chains : KeptChains) (told : List ℕ)
    (edges : KeptEdges) (before : LocksStart) : Type 0 where
  pub tied : AreTied stacks (chains_of chains.links) told (edges_of edges.tellings)
  pub start : IsAtStart before (chains_of chains.links) told edges.tellings
  pub masked : HasItsMasks (chains_of chains.links) chains.masks edges.words
  pub room : stacks ≡ [] → told ≡ [] → edges.tellings ≡ [] → IsRoomy chains edges

-- it is of this lock
abbrev pub is_of : PlainLock → Hold → Bool
is_of lock hold = same_lock lock hold.lock

-- the locks of a stack, as plain data without their chains
abbrev pub holds_of : List Held → List Hold
holds_of stack = map (λ held. hold_of (plain_held held)) stack
