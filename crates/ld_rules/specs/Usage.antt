-- *Usage*.
use Rattle.std.specs.Prelude.{◌≡◌, Bool, false, ◌&&◌, List, [], ◌∷◌, ◌++◌, map, filter}
use Rattle.std.specs.Prelude.{Option, Some, None, if◌then◌else◌}
use Rattle.ld_class.specs.Names.{PlainClass, same_class}
use Rattle.ld_class.specs.declared.usage.Usage as sets
use Rattle.ld_class.specs.Usage.{has_bit, in_hard, in_soft, on_hard, on_soft}
use Rattle.ld_trace.specs.declared.event.State.{State}
use Rattle.ld_trace.specs.declared.event.State.TheVariants.{Hard, Soft}
use Rattle.ld_trace.specs.Events.{PlainEvent}
use Rattle.ld_rules.specs.Frames.{contexts, task_of}
use Rattle.ld_rules.specs.Held.{class_awaited, held}
use Rattle.ld_rules.specs.Flags.{same_state, is_enabled}

-- a class used in a state's context, or held with the state enabled
pub data Bit : Type 0 where
  In : (state : State) → Bit
  On : (state : State) → Bit

abbrev pub same_bit : Bit → Bit → Bool
same_bit (In a) (In b) = same_state a b
same_bit (In a) (On b) = false
same_bit (On a) (In b) = false
same_bit (On a) (On b) = same_state a b

-- a bit as a set that has it alone
abbrev pub usage_of : Bit → sets.Usage
usage_of (In Hard) = in_hard
usage_of (In Soft) = in_soft
usage_of (On Hard) = on_hard
usage_of (On Soft) = on_soft

-- the bit of a set that has one
abbrev pub bit_of : sets.Usage → Bit
bit_of usage =
    if has_bit usage in_hard then In Hard
    else if has_bit usage in_soft then In Soft
    else if has_bit usage on_hard then On Hard
    else On Soft

-- the set has one bit
abbrev pub IsBit : sets.Usage → Type 0
IsBit usage = usage ≡ usage_of (bit_of usage)

-- one bit of one class
pub record Use : Type 0 where
  pub class : PlainClass
  pub bit : Bit

abbrev pub same_use : Use → Use → Bool
same_use a b = same_class a.class b.class && same_bit a.bit b.bit

-- the uses of a class that is waited for in these contexts
abbrev pub uses_in : List State → Option PlainClass → List Use
uses_in states None = []
uses_in states (Some class) = map (λ state. record { class = class; bit = In state }) states

-- IN_S of c stands at p if p is a waiting acquisition of c by a task with S among its contexts.
-- Here `now` is the past at p.
abbrev pub in_uses : List PlainEvent → PlainEvent → List Use
in_uses now event = uses_in (contexts now (task_of event)) (class_awaited event)

-- ON_HARD of c stands at p if an acquisition of c, of any frame, is open at p and its task's hard
-- flag at p is on; ON_SOFT, where both its flags are on.
abbrev pub on_uses : List PlainEvent → State → List Use
on_uses now state =
    map (λ one. record { class = one.class; bit = On state })
    (filter (λ one. is_enabled now one.key.task state) (held now))

-- the uses that stand at an event after these
abbrev pub uses_at : List PlainEvent → PlainEvent → List Use
uses_at past event =
    let now = past ++ event ∷ [] in
    in_uses now event ++ (on_uses now Hard ++ on_uses now Soft)
