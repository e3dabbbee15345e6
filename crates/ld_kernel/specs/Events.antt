-- What the bytes of an event tell, by where its fields stand.
use Rattle.std.specs.Prelude.{ℕ, ℤ, pos, ◌+◌, ◌/◌, ◌%◌, ◌^◌, ◌==◌, nat_lt, nat_le, Bool, List, length, find, max, slice_index, slice_range, Option, Some, None, Result, Ok, Err, if◌then◌else◌}
use Rattle.std.specs.Int.{cast_signed, w32}
use Rattle.std.specs.List.{before_first, list_any}
use Rattle.std.specs.Option.{option_map}
use Rattle.ld_layout.specs.Lines.{◌>>=◌, seen}
use Rattle.ld_kernel.specs.declared.decode.Head.{Head}
use Rattle.ld_kernel.specs.declared.event.Acquire.{Acquire}
use Rattle.ld_kernel.specs.declared.event.Context.{Context}
use Rattle.ld_kernel.specs.declared.event.Event.{Event}
use Rattle.ld_kernel.specs.declared.event.Mode.{Mode}
use Rattle.ld_kernel.specs.declared.event.Mode.TheVariants.{Writer, Reader, Recursive}
use Rattle.ld_kernel.specs.declared.event.Place.{Place}
use Rattle.ld_kernel.specs.declared.event.Release.{Release}
use Rattle.ld_kernel.specs.declared.event.StepBegin.{StepBegin}
use Rattle.ld_kernel.specs.declared.event.StepEnd.{StepEnd}
use Rattle.ld_kernel.specs.declared.event.StockAcquire.{StockAcquire}
use Rattle.ld_kernel.specs.declared.event.What.{What}
use Rattle.ld_kernel.specs.declared.event.What.TheVariants as whats
use Rattle.ld_kernel.specs.declared.fields.AcquireFields.{AcquireFields}
use Rattle.ld_kernel.specs.declared.fields.ReleaseFields.{ReleaseFields}
use Rattle.ld_kernel.specs.declared.fields.StockAcquireFields.{StockAcquireFields}
use Rattle.ld_kernel.specs.declared.steps.StepBeginFields.{StepBeginFields}
use Rattle.ld_kernel.specs.declared.steps.StepEndFields.{StepEndFields}
use Rattle.ld_kernel.specs.declared.kind.Fields.{Fields}
use Rattle.ld_kernel.specs.declared.kind.Fields.TheVariants as fields
use Rattle.ld_kernel.specs.declared.kind.Kind.{Kind}
use Rattle.ld_kernel.specs.declared.number.Number.{Number}
use Rattle.ld_kernel.specs.declared.wrong.Wrong.{Wrong}
use Rattle.ld_kernel.specs.declared.wrong.Wrong.TheVariants as wrongs
use Rattle.ld_kernel.specs.Numbers.{end_of, half_at, read, word_at}

-- an acquisition without where its name lies in memory
pub record PlainAcquire : Type 0 where
  pub lock : ℕ
  pub key : ℕ
  pub nest : ℕ
  pub caller : ℕ
  pub subclass : ℕ
  pub is_trylock : Bool
  pub is_checked : Bool
  pub mode : Mode
  pub held : Option ℕ
  pub name : List ℕ

abbrev pub plain_acquire : Acquire → PlainAcquire
plain_acquire a = record {
  lock = a.lock;
  key = a.key;
  nest = a.nest;
  caller = a.caller;
  subclass = a.subclass;
  is_trylock = a.is_trylock;
  is_checked = a.is_checked;
  mode = a.mode;
  held = a.held;
  name = a.name.now;
}

-- the same of the kernel's own event
pub record PlainStock : Type 0 where
  pub lock : ℕ
  pub is_trylock : Bool
  pub is_read : Bool
  pub name : List ℕ

abbrev pub plain_stock : StockAcquire → PlainStock
plain_stock a = record { lock = a.lock; is_trylock = a.is_trylock; is_read = a.is_read; name = a.name.now }

-- what an event tells, the same way
pub data PlainWhat : Type 0 where
  acquire : PlainAcquire → PlainWhat
  release : Release → PlainWhat
  stock_acquire : PlainStock → PlainWhat
  stock_release : Release → PlainWhat
  irq_enable : PlainWhat
  irq_disable : PlainWhat
  step_begin : StepBegin → PlainWhat
  step_end : StepEnd → PlainWhat
  other : PlainWhat

abbrev pub plain_what : What → PlainWhat
plain_what (whats.Acquire a) = acquire (plain_acquire a)
plain_what (whats.Release r) = release r
plain_what (whats.StockAcquire a) = stock_acquire (plain_stock a)
plain_what (whats.StockRelease r) = stock_release r
plain_what whats.IrqEnable = irq_enable
plain_what whats.IrqDisable = irq_disable
plain_what (whats.StepBegin s) = step_begin s
plain_what (whats.StepEnd s) = step_end s
plain_what whats.Other = other

pub record PlainEvent : Type 0 where
  pub place : Place
  pub what : PlainWhat

abbrev pub plain_event : Event → PlainEvent
plain_event e = record { place = e.place; what = plain_what e.what }

abbrev pub is_zero : ℕ → Bool
is_zero b = b == 0

abbrev pub is_lf : ℕ → Bool
is_lf b = b == 10

-- the part of an event that a number tells of: its offset in the lower 16 bits, its length above them
abbrev pub part_at : List ℕ → ℕ → Option (List ℕ)
part_at bytes number =
    let start = number % 2 ^ 16 in
    let end = start + number / 2 ^ 16 in
    if nat_le end (length bytes) then Some (slice_range bytes start end) else None

abbrev pub one_line : List ℕ → Option (List ℕ)
one_line text = if list_any is_lf text then None else Some text

abbrev pub text_in : Option (List ℕ) → Option (List ℕ)
text_in None = None
text_in (Some part) = one_line (before_first is_zero part)

-- *Text*: the part that a number tells of, up to the first zero; it has one line.
abbrev pub text_at : List ℕ → ℕ → Option (List ℕ)
text_at bytes number = text_in (part_at bytes number)

-- a number that isn't negative by its 32 bits
abbrev pub count_said : ℕ → Result ℤ Wrong
count_said number = if nat_lt number (2 ^ 31) then Ok (pos number) else Err wrongs.Large

abbrev pub word_said : ℕ → Result ℕ Wrong
word_said number = if nat_lt number (2 ^ 32) then Ok number else Err wrongs.Large

-- lockdep's numbers of those who acquire
abbrev pub mode_said : ℕ → Option Mode
mode_said number =
    if number == 0 then Some Writer
    else if number == 1 then Some Reader
    else if number == 2 then Some Recursive
    else None

-- how many locks lockdep has: 255 stands for a lockdep that has stopped
abbrev pub held_said : List ℕ → Option Number → Option ℕ
held_said bytes None = None
held_said bytes (Some number) = if nat_lt (read number bytes) 255 then Some (read number bytes) else None

abbrev pub acquire_with : AcquireFields → List ℕ → Option Mode → Option (List ℕ) → Result PlainAcquire Wrong
acquire_with f bytes None name = Err wrongs.Mode
acquire_with f bytes (Some mode) None = Err wrongs.Name
acquire_with f bytes (Some mode) (Some name) = Ok (record {
  lock = read f.lock bytes;
  key = read f.key bytes;
  nest = read f.nest bytes;
  caller = read f.caller bytes;
  subclass = read f.subclass bytes;
  is_trylock = read f.how bytes % 2 == 1;
  is_checked = read f.how bytes / 2 == 1;
  mode = mode;
  held = held_said bytes f.held;
  name = name;
})

-- *Acquire*: what the module's event tells. `how` has 1 for a trylock and 2 for what lockdep checks.
abbrev pub acquire_said : AcquireFields → List ℕ → Result PlainAcquire Wrong
acquire_said f bytes =
    if nat_lt (length bytes) f.end then Err wrongs.Short
    else if nat_lt 3 (read f.how bytes) then Err wrongs.How
    else if nat_lt 255 (read f.subclass bytes) then Err wrongs.Subclass
    else acquire_with f bytes (mode_said (read f.mode bytes)) (text_at bytes (read f.name bytes))

-- *Release*: the lock's address.
abbrev pub release_said : ReleaseFields → List ℕ → Result Release Wrong
release_said f bytes =
    if nat_lt (length bytes) (end_of f.lock) then Err wrongs.Short else Ok (record { lock = read f.lock bytes })

abbrev pub stock_with : StockAcquireFields → List ℕ → Option (List ℕ) → Result PlainStock Wrong
stock_with f bytes None = Err wrongs.Name
stock_with f bytes (Some name) = Ok (record {
  lock = read f.lock bytes;
  is_trylock = read f.flags bytes % 2 == 1;
  is_read = read f.flags bytes / 2 % 2 == 1;
  name = name;
})

-- *Stock acquire*: what the kernel's own event tells. `flags` has 1 for a trylock and 2 for a read.
abbrev pub stock_said : StockAcquireFields → List ℕ → Result PlainStock Wrong
stock_said f bytes =
    if nat_lt (length bytes) (max (max (end_of f.lock) (end_of f.flags)) (end_of f.name)) then Err wrongs.Short
    else stock_with f bytes (text_at bytes (read f.name bytes))

-- *Step*: a processor is taken away or comes back.
unfoldable pub begin_said : StepBeginFields → List ℕ → Result StepBegin Wrong
begin_said f bytes =
    if nat_lt (length bytes) (max (max (end_of f.processor) (end_of f.step)) (end_of f.function)) then Err wrongs.Short
    else (word_said (read f.processor bytes) >>= λ processor. count_said (read f.step bytes) >>= λ step.
    Ok (record { processor = processor; step = step; function = read f.function bytes }))

unfoldable pub end_said : StepEndFields → List ℕ → Result StepEnd Wrong
end_said f bytes =
    if nat_lt (length bytes) (max (max (end_of f.processor) (end_of f.step)) (end_of f.status)) then Err wrongs.Short
    else (word_said (read f.processor bytes) >>= λ processor. count_said (read f.step bytes) >>= λ step.
    word_said (read f.status bytes) >>= λ status.
    Ok (record { processor = processor; step = step; status = cast_signed w32 status }))

-- what the bytes of an event with these fields tell
unfoldable pub what_by : List ℕ → Fields → Result PlainWhat Wrong
what_by bytes (fields.Acquire f) = seen acquire (acquire_said f bytes)
what_by bytes (fields.Release f) = seen release (release_said f bytes)
what_by bytes (fields.StockAcquire f) = seen stock_acquire (stock_said f bytes)
what_by bytes (fields.StockRelease f) = seen stock_release (release_said f bytes)
what_by bytes fields.IrqEnable = Ok irq_enable
what_by bytes fields.IrqDisable = Ok irq_disable
what_by bytes (fields.StepBegin f) = seen step_begin (begin_said f bytes)
what_by bytes (fields.StepEnd f) = seen step_end (end_said f bytes)

abbrev pub what_said : List ℕ → Option Fields → Result PlainWhat Wrong
what_said bytes None = Ok other
what_said bytes (Some f) = what_by bytes f

-- the fields of the first kind with a number
abbrev pub fields_with : ℕ → List Kind → Option Fields
fields_with id kinds = option_map (λ k. k.fields) (find (λ k. k.id == id) kinds)

-- *Context*: the flags that tell of interrupts and handlers
abbrev pub context_of : ℕ → Context
context_of flags = record {
  hard_off = flags % 2 == 1;
  soft_off = flags / 128 == 1;
  in_hard = flags / 8 % 2 == 1;
  in_soft = flags / 16 % 2 == 1;
  in_nmi = flags / 64 % 2 == 1;
}

-- *Head*: the number of the event, its flags, and the number of its task, which isn't negative
abbrev pub head_said : List ℕ → Result Head Wrong
head_said bytes =
    if nat_lt (length bytes) 8 then Err wrongs.Short
    else if nat_lt (word_at bytes 4) (2 ^ 31)
    then Ok (record { id = half_at bytes 0; context = context_of (slice_index bytes 2); task = pos (word_at bytes 4) })
    else Err wrongs.Task

-- *Event*: what the bytes of an event tell that a processor recorded at a time. An event of no known kind tells where
-- its task runs.
unfoldable pub event_said : List Kind → ℕ → ℕ → List ℕ → Result PlainEvent Wrong
event_said kinds processor time bytes =
    head_said bytes >>= λ head. what_said bytes (fields_with head.id kinds) >>= λ what.
    Ok (record {
      place = record { task = head.task; processor = processor; time = time; context = head.context };
      what = what;
    })
