-- Where the fields of each event stand, by the fields of its format.
use Rattle.std.specs.Prelude.{ℕ, ◌≡◌, List, Option, Some, None, codes, max}
use Rattle.ld_layout.specs.declared.field.Shape.{Shape}
use Rattle.ld_layout.specs.declared.field.Shape.TheVariants as shapes
use Rattle.ld_layout.specs.Fields.{PlainField}
use Rattle.ld_layout.specs.Texts.{field_named}
use Rattle.ld_kernel.specs.declared.fields.AcquireFields.{AcquireFields}
use Rattle.ld_kernel.specs.declared.fields.StockAcquireFields.{StockAcquireFields}
use Rattle.ld_kernel.specs.declared.steps.StepBeginFields.{StepBeginFields}
use Rattle.ld_kernel.specs.declared.steps.StepEndFields.{StepEndFields}
use Rattle.ld_kernel.specs.declared.kind.Fields.{Fields}
use Rattle.ld_kernel.specs.declared.kind.Fields.TheVariants as fields
use Rattle.ld_kernel.specs.declared.kind.Sort.{Sort}
use Rattle.ld_kernel.specs.declared.kind.Sort.TheVariants as sorts
use Rattle.ld_kernel.specs.declared.number.Number.{Number}
use Rattle.ld_kernel.specs.declared.number.Width.TheVariants.{One, Two, Four}
use Rattle.ld_kernel.specs.Numbers.{end_of, number_of}

abbrev pub number_in : Option PlainField → Option Number
number_in None = None
number_in (Some field) = number_of field

-- the number that stands in the place of the field of a name
abbrev pub number_named : List ℕ → List PlainField → Option Number
number_named name all = number_in (field_named name all)

abbrev pub located_by : Shape → ℕ → Option Number
located_by shapes.Located at = Some (record { at = at; width = Four })
located_by shapes.Plain at = None
located_by shapes.Array at = None
located_by shapes.Relative at = None

abbrev pub located_in : Option PlainField → Option Number
located_in None = None
located_in (Some field) = located_by field.shape field.offset

-- the number that tells where the text of the field of a name stands
abbrev pub located_named : List ℕ → List PlainField → Option Number
located_named name all = located_in (field_named name all)

-- *Head*: each event begins with its number, its flags and the number of its task.
pub record HasHead (all : List PlainField) : Type 0 where
  pub number : number_named (codes "common_type") all ≡ Some (record { at = 0; width = Two })
  pub flags : number_named (codes "common_flags") all ≡ Some (record { at = 2; width = One })
  pub task : number_named (codes "common_pid") all ≡ Some (record { at = 4; width = Four })

-- Behind the last one of the fields that each module's `acquire` has.
abbrev pub acquire_end : AcquireFields → ℕ
acquire_end f =
    max (max (max (max (end_of f.lock) (end_of f.key)) (end_of f.nest)) (end_of f.caller))
    (max (max (max (end_of f.subclass) (end_of f.how)) (end_of f.mode)) (end_of f.name))

pub record IsAcquire (all : List PlainField) (f : AcquireFields) : Type 0 where
  pub lock : number_named (codes "lock") all ≡ Some f.lock
  pub key : number_named (codes "key") all ≡ Some f.key
  pub nest : number_named (codes "nest") all ≡ Some f.nest
  pub caller : number_named (codes "caller") all ≡ Some f.caller
  pub subclass : number_named (codes "subclass") all ≡ Some f.subclass
  pub how : number_named (codes "how") all ≡ Some f.how
  pub mode : number_named (codes "read") all ≡ Some f.mode
  pub held : number_named (codes "held") all ≡ f.held
  pub name : located_named (codes "name") all ≡ Some f.name
  pub end : f.end ≡ acquire_end f

pub record IsStockAcquire (all : List PlainField) (f : StockAcquireFields) : Type 0 where
  pub lock : number_named (codes "lockdep_addr") all ≡ Some f.lock
  pub flags : number_named (codes "flags") all ≡ Some f.flags
  pub name : located_named (codes "name") all ≡ Some f.name

pub record IsStepBegin (all : List PlainField) (f : StepBeginFields) : Type 0 where
  pub processor : number_named (codes "cpu") all ≡ Some f.processor
  pub step : number_named (codes "idx") all ≡ Some f.step
  pub function : number_named (codes "fun") all ≡ Some f.function

pub record IsStepEnd (all : List PlainField) (f : StepEndFields) : Type 0 where
  pub processor : number_named (codes "cpu") all ≡ Some f.processor
  pub step : number_named (codes "idx") all ≡ Some f.step
  pub status : number_named (codes "ret") all ≡ Some f.status

-- *Fields*: each stands where the format of its event has the field of its name.
abbrev pub AreFields : Sort → List PlainField → Fields → Type 0
AreFields sorts.Acquire all (fields.Acquire f) = IsAcquire all f
AreFields sorts.Release all (fields.Release f) = number_named (codes "lock") all ≡ Some f.lock
AreFields sorts.StockAcquire all (fields.StockAcquire f) = IsStockAcquire all f
AreFields sorts.StockRelease all (fields.StockRelease f) = number_named (codes "lockdep_addr") all ≡ Some f.lock
AreFields sorts.IrqEnable all fields.IrqEnable = Unit {0}
AreFields sorts.IrqDisable all fields.IrqDisable = Unit {0}
AreFields sorts.StepBegin all (fields.StepBegin f) = IsStepBegin all f
AreFields sorts.StepEnd all (fields.StepEnd f) = IsStepEnd all f
AreFields sort all other = ⊥
