-- Events as lines of text, as tracefs' file `trace` has them. Blanks that only align are left out, and so is what no
-- stream has: whether the task is to be preempted, and how deeply preemption is disabled.
use Rattle.std.specs.Prelude.{ℕ, ℤ, ◌+◌, ◌/◌, ◌%◌, ◌-◌, ◌^◌, nat_le, Bool, true, false, List, [], ◌++◌, length, take, drop, Option, Some, None, codes, decimal, if◌then◌else◌}
use Rattle.std.specs.Fmt.{digits, format_spec, padded_integral, signed_decimal}
use Rattle.ld_kernel.specs.declared.event.Context.{Context}
use Rattle.ld_kernel.specs.declared.event.Mode.{Mode}
use Rattle.ld_kernel.specs.declared.event.Mode.TheVariants.{Writer, Reader, Recursive}
use Rattle.ld_kernel.specs.declared.event.Place.{Place}
use Rattle.ld_kernel.specs.declared.event.StepBegin.{StepBegin}
use Rattle.ld_kernel.specs.declared.event.StepEnd.{StepEnd}
use Rattle.ld_kernel.specs.Events.{PlainAcquire, PlainEvent, PlainStock, PlainWhat, acquire, release, stock_acquire, stock_release, irq_enable, irq_disable, step_begin, step_end, other}
use Rattle.ld_printed.specs.declared.place.Clock.{Clock}
use Rattle.ld_printed.specs.declared.place.Clock.TheVariants.{Steps, Nanoseconds}

-- an address, by 16 digits of the base 16
abbrev pub hex : ℕ → List ℕ
hex n = padded_integral (format_spec 32 0 4 16 (2 ^ 64 - 1)) false [] (digits 16 false n)

-- a number with zeros in front up to a width
abbrev pub zeroed : ℕ → ℕ → List ℕ
zeroed width n = padded_integral (format_spec 32 0 4 width (2 ^ 64 - 1)) false [] (decimal n)

abbrev pub bit : Bool → List ℕ
bit true = codes "1"
bit false = codes "0"

-- *Columns*: the interrupts that are disabled, and the handlers that run.
abbrev pub irqs : Bool → Bool → List ℕ
irqs true true = codes "D"
irqs true false = codes "d"
irqs false true = codes "b"
irqs false false = codes "."

abbrev pub handlers : (in_nmi in_hard in_soft : Bool) → List ℕ
handlers true true in_soft = codes "Z"
handlers true false in_soft = codes "z"
handlers false true true = codes "H"
handlers false true false = codes "h"
handlers false false true = codes "s"
handlers false false false = codes "."

abbrev pub irqs_column : Context → List ℕ
irqs_column c = irqs c.hard_off c.soft_off

abbrev pub handlers_column : Context → List ℕ
handlers_column c = handlers c.in_nmi c.in_hard c.in_soft

abbrev pub columns : Context → List ℕ
columns c = irqs_column c ++ codes "." ++ handlers_column c ++ codes ".."

-- *Task*: the first 16 bytes of its name, with blanks in front up to 16, and its number.
abbrev pub shown_name : List ℕ → List ℕ
shown_name name = if nat_le (length name) 16 then name else take 16 name

abbrev pub task_text : List ℕ → ℤ → List ℕ
task_text name task =
    drop (length (shown_name name)) (codes "                ") ++ shown_name name ++ codes "-" ++ signed_decimal task

-- *Time*: as the clock counts. Nanoseconds are told by seconds and, rounded, millionths.
abbrev pub micros : ℕ → ℕ
micros time = time / 1000 + (if nat_le 500 (time % 1000) then 1 else 0)

abbrev pub time_text : Clock → ℕ → List ℕ
time_text Steps time = decimal time
time_text Nanoseconds time = decimal (micros time / 1000000) ++ codes "." ++ zeroed 6 (micros time % 1000000)

-- *Place*: task, processor, columns and time
abbrev pub place_text : Clock → List ℕ → Place → List ℕ
place_text clock name place =
    task_text name place.task ++ codes " [" ++ zeroed 3 place.processor ++ codes "] " ++ columns place.context
    ++ codes " " ++ time_text clock place.time ++ codes ": "

abbrev pub mode_text : Mode → List ℕ
mode_text Writer = codes " r=0"
mode_text Reader = codes " r=1"
mode_text Recursive = codes " r=2"

abbrev pub words_if : List ℕ → Bool → List ℕ
words_if words is_so = if is_so then words else []

abbrev pub held_text : Option ℕ → List ℕ
held_text None = []
held_text (Some held) = codes " h=" ++ decimal held

-- *Acquire*: lock, key, subclass, trylock, kind, checked, the lock that orders many, the locks that lockdep has, and by
-- their addresses what the key lies in and who acquires; last the name.
abbrev pub acquire_text : PlainAcquire → List ℕ
acquire_text a =
    codes "acquire: " ++ hex a.lock ++ codes " k=" ++ hex a.key ++ codes " s=" ++ decimal a.subclass
    ++ codes " t=" ++ bit a.is_trylock ++ mode_text a.mode ++ codes " c=" ++ bit a.is_checked
    ++ codes " n=" ++ hex a.nest ++ held_text a.held ++ codes " y=" ++ hex a.key ++ codes " i=" ++ hex a.caller
    ++ codes " " ++ a.name

-- *Stock acquire*: lock, trylock, read and name
abbrev pub stock_text : PlainStock → List ℕ
stock_text a =
    codes "lock_acquire: " ++ hex a.lock ++ words_if (codes " try") a.is_trylock
    ++ words_if (codes " read") a.is_read ++ codes " " ++ a.name

-- *Stock release*: the lock
abbrev pub stock_release_text : ℕ → List ℕ
stock_release_text lock = codes "lock_release: " ++ hex lock ++ codes " ?"

-- *Step*: the processor, the number of the step, and the address of the function or what it answered
abbrev pub begin_text : StepBegin → List ℕ
begin_text s =
    codes "cpuhp_enter: cpu: " ++ decimal s.processor ++ codes " target: 0 step: " ++ signed_decimal s.step
    ++ codes " (" ++ hex s.function ++ codes ")"

abbrev pub end_text : StepEnd → List ℕ
end_text s =
    codes "cpuhp_exit: cpu: " ++ decimal s.processor ++ codes " state: 0 step: " ++ signed_decimal s.step
    ++ codes " ret: " ++ signed_decimal s.status

-- *What*: an event by its name, and what it tells. The name of a lock that is released, and who changes the flags of
-- interrupts, are told by `?`.
abbrev pub what_text : PlainWhat → List ℕ
what_text (acquire a) = acquire_text a
what_text (release r) = codes "release: " ++ hex r.lock
what_text (stock_acquire a) = stock_text a
what_text (stock_release r) = stock_release_text r.lock
what_text irq_enable = codes "irq_enable: caller=? parent=?"
what_text irq_disable = codes "irq_disable: caller=? parent=?"
what_text (step_begin s) = begin_text s
what_text (step_end s) = end_text s
what_text other = codes "other: "

-- *Line*: where and when, and what
abbrev pub event_line : Clock → List ℕ → PlainEvent → List ℕ
event_line clock name event = place_text clock name event.place ++ what_text event.what ++ codes "\n"

abbrev pub count_text : Option ℕ → List ℕ
count_text (Some count) = decimal count ++ codes " "
count_text None = []

-- *Lost*: events that the kernel lost, and how many, if that is known
abbrev pub lost_line : ℕ → Option ℕ → List ℕ
lost_line processor count =
    codes "CPU:" ++ decimal processor ++ codes " [LOST " ++ count_text count ++ codes "EVENTS]\n"
