-- Which acquisitions a stream has, and how each stands there: a rule each.
use Rattle.std.specs.Prelude.{ℕ, Bool, true, false, ◌&&◌, ◌||◌, not, nat_lt, Option, Some, None, if◌then◌else◌}
use Rattle.ld_kernel.specs.declared.event.Mode.{Mode}
use Rattle.ld_kernel.specs.declared.event.Mode.TheVariants.{Writer, Reader, Recursive}
use Rattle.ld_kept.specs.declared.kept.LeftOut.{LeftOut}
use Rattle.ld_kept.specs.declared.kept.LeftOut.TheVariants.{Unchecked, Readers}
use Rattle.ld_kept.specs.declared.kept.Taking.{Taking}
use Rattle.ld_kept.specs.declared.kept.Taking.TheVariants.{Waiting, Trying, Reading}
use Rattle.ld_kept.specs.declared.kept.TheConstants.{MOST_SUBCLASS}

abbrev pub is_reader : Mode → Bool
is_reader Writer = false
is_reader Reader = true
is_reader Recursive = true

-- *Left out*: what lockdep doesn't check; and readers, if they aren't wanted.
abbrev pub left_out_of : (is_checked : Bool) → Mode → (without_readers : Bool) → Option LeftOut
left_out_of is_checked mode without_readers =
    if not is_checked then Some Unchecked
    else if is_reader mode && without_readers then Some Readers
    else None

-- a task that waits, by its mode
abbrev pub waiting : Mode → Taking
waiting Writer = Waiting
waiting Reader = Waiting
waiting Recursive = Reading

-- *Try*: a trylock, and a lock under the one that orders many of its class. Else the task may wait.
abbrev pub taking_of : (is_trylock : Bool) → Mode → (is_ordered : Bool) → Taking
taking_of is_trylock mode is_ordered = if is_trylock || is_ordered then Trying else waiting mode

-- *Readers*: the class NAME!read stands beside a class that recursive readers wait for. They wait for it, and a
-- writer holds it.
abbrev pub needs_readers_of : Mode → Taking → (is_awaited : Bool) → Bool
needs_readers_of mode Reading is_awaited = true
needs_readers_of mode Waiting is_awaited = not (is_reader mode) && is_awaited
needs_readers_of mode Trying is_awaited = not (is_reader mode) && is_awaited

-- *Two locks*: a writer of such a class holds both.
abbrev pub locks_of : Mode → Taking → (is_awaited : Bool) → ℕ
locks_of mode Reading is_awaited = 1
locks_of mode Waiting is_awaited = if not (is_reader mode) && is_awaited then 2 else 1
locks_of mode Trying is_awaited = if not (is_reader mode) && is_awaited then 2 else 1

-- a line `nested` can say the subclass of an acquisition: that of a lock for which the task waits as no recursive
-- reader does
abbrev pub may_be_nested : Taking → Bool
may_be_nested Waiting = true
may_be_nested Trying = false
may_be_nested Reading = false

-- *Apart*: a subclass that no line `nested` can say is a class of its own.
abbrev pub stands_apart : ℕ → Taking → (is_awaited : Bool) → Bool
stands_apart subclass taking is_awaited =
    nat_lt MOST_SUBCLASS subclass || (nat_lt 0 subclass && (is_awaited || not (may_be_nested taking)))

-- the subclass that the line of an acquisition says; 0 is none
abbrev pub sub_of : ℕ → Taking → (is_awaited : Bool) → ℕ
sub_of subclass taking is_awaited = if stands_apart subclass taking is_awaited then 0 else subclass
