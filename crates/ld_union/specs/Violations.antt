-- *Walk* and *Violations*, over the names of the classes of a union.
use Rattle.std.specs.Prelude.{List, IsSome}
use Rattle.ld_class.specs.Names.{PlainClass}
use Rattle.ld_trace.specs.declared.event.State.{State}
use Rattle.ld_trace.specs.Sources.{PlainSource}
use Rattle.ld_graph.specs.Walks.{HasWalk}
use Rattle.ld_rules.specs.Usage.{Bit}
use Rattle.ld_rules.specs.Usage.Bit.{In, On}
use Rattle.ld_rules.specs.Union.{dependency_witness, use_witness}

-- (a, b) is a dependency of the union of these sources: it has a first witness
abbrev pub Depends : List PlainSource → PlainClass → PlainClass → Type 0
Depends sources a b = IsSome (dependency_witness sources (record { from = a; to = b }))

-- the class has this bit in the union
abbrev pub HasBit : List PlainSource → PlainClass → Bit → Type 0
HasBit sources class bit = IsSome (use_witness sources (record { class = class; bit = bit }))

-- there is a walk from a to b: at least two classes, each two neighbours a dependency of the union
abbrev pub Leads : List PlainSource → PlainClass → PlainClass → Type 0
Leads sources a b = HasWalk (Depends sources) a b

-- A dependency with a walk back from its second class to its first. A dependency of a class on itself
-- is such a walk.
abbrev pub IsCycle : List PlainSource → PlainClass → PlainClass → Type 0
IsCycle sources a b = Depends sources a b × Leads sources b a

-- a class with both bits of the state: handlers of the state acquire it (IN), and it is held where
-- such a handler can interrupt (ON)
abbrev pub IsConflict : List PlainSource → State → PlainClass → Type 0
IsConflict sources state class = HasBit sources class (In state) × HasBit sources class (On state)

-- a walk from a class with the state's IN bit, which handlers of the state acquire, to one with its
-- ON bit, which is held where such a handler can interrupt
abbrev pub IsForbidden : List PlainSource → State → PlainClass → PlainClass → Type 0
IsForbidden sources state x y = HasBit sources x (In state) × HasBit sources y (On state) × Leads sources x y

-- what a violation can be, by the names of its classes
pub data Violation : Type 0 where
  Cycle : (from to : PlainClass) → Violation
  Conflict : (state : State) (class : PlainClass) → Violation
  Forbidden : (state : State) (from to : PlainClass) → Violation

-- the sources have this violation
abbrev pub IsViolation : List PlainSource → Violation → Type 0
IsViolation sources (Cycle from to) = IsCycle sources from to
IsViolation sources (Conflict state class) = IsConflict sources state class
IsViolation sources (Forbidden state from to) = IsForbidden sources state from to

-- the sources have a violation
abbrev pub HasViolation : List PlainSource → Type 0
HasViolation sources = (v : Violation) × IsViolation sources v
