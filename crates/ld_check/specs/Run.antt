-- What a run says of the bytes that it read. `left` is what the input has left before the run,
-- and `left'` what it has left after it.
use Rattle.std.specs.Prelude.{◌≡◌, ℕ, List, Bool, Option, None, Some}
use Rattle.ld_trace.specs.Sources.{PlainSource, sources, stream_fault}
use Rattle.ld_trace.specs.declared.source.StreamFault.{StreamFault}
use Rattle.ld_io.specs.Transfer.{ReadsWhole}
use Rattle.ld_io.specs.declared.transfer.ReadFault.{ReadFault}
use Rattle.ld_io.specs.declared.transfer.ReadFault.TheVariants as read_fault
use Rattle.ld_check.specs.declared.checked.CheckFault.{CheckFault}
use Rattle.ld_check.specs.declared.checked.CheckFault.TheVariants as check_fault
use Rattle.ld_check.specs.declared.running.RunFault.{RunFault}
use Rattle.ld_check.specs.declared.running.RunFault.TheVariants.{Read, Stream, Memory, Uneven}

-- bytes without a fault were read whole, and of their sources this holds
pub record Answers (left left' : Option (List ℕ)) (has_ended : Bool)
    (Holds : List PlainSource → Type 0) : Type 0 where
  pub bytes : List ℕ
  pub read : ReadsWhole left left' has_ended bytes
  pub sound : stream_fault bytes ≡ None
  pub holds : Holds (sources bytes)

-- bytes were read whole, and they have this fault
pub record Refuses (left left' : Option (List ℕ)) (has_ended : Bool) (fault : StreamFault) : Type 0 where
  pub bytes : List ℕ
  pub read : ReadsWhole left left' has_ended bytes
  pub has_fault : stream_fault bytes ≡ Some fault

-- a fault of the reading, as the run answers it
abbrev pub run_fault_of_read : ReadFault → RunFault
run_fault_of_read read_fault.Read = Read
run_fault_of_read read_fault.Memory = Memory

-- a fault of the check, as the run answers it
abbrev pub run_fault_of_check : CheckFault → RunFault
run_fault_of_check (check_fault.Stream fault) = Stream fault
run_fault_of_check check_fault.Memory = Memory
run_fault_of_check (check_fault.Uneven number) = Uneven number
