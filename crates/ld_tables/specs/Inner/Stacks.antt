-- What the parts of the scan keep, as plain data. No public contract cites this file.
use Rattle.std.specs.Prelude.{ℕ, Bool, List, [], Option, drop}
use Rattle.ld_trace.specs.Events.{PlainLock, plain_lock}
use Rattle.ld_rules.specs.Held.{same_lock}
use Rattle.ld_tables.specs.declared.held.Held.{Held}
use Rattle.ld_tables.specs.declared.interrupts.Interrupts.{Interrupts}
use Rattle.ld_tables.specs.Inner.Interrupts.{fresh, start_now}

-- a lock that a task holds, without where its names lie in memory: the lock, the number of its
-- class, and, where it is known, the number of the chain of the classes that the task holds up to it
-- in its frame
pub record PlainHeld : Type 0 where
  pub lock : PlainLock
  pub class : ℕ
  pub chain : Option ℕ

abbrev pub plain_held : Held → PlainHeld
plain_held held = record { lock = plain_lock held.lock; class = held.class; chain = held.chain }

-- it holds this lock
abbrev pub holds : PlainLock → PlainHeld → Bool
holds lock held = same_lock lock held.lock

-- what a task holds in all its frames, in order of acquisition, and its frames and flags
pub record PlainStack : Type 0 where
  pub held : List PlainHeld
  pub interrupts : Interrupts

-- a task before its first event
abbrev pub empty_stack : PlainStack
empty_stack = record { held = []; interrupts = fresh }

-- what a task holds in its innermost frame
abbrev pub inner : PlainStack → List PlainHeld
inner stack = drop (start_now stack.interrupts) stack.held
