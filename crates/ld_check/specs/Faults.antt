-- Why there is no book of a stream, by why the stream wasn't split, or the book wasn't made.
use Rattle.ld_trace.specs.declared.source.StreamFault.{StreamFault}
use Rattle.ld_trace.specs.declared.source.StreamFault.TheVariants as stream_faults
use Rattle.ld_work.specs.declared.workers.WorkFault.{WorkFault}
use Rattle.ld_work.specs.declared.workers.WorkFault.TheVariants as work_faults
use Rattle.ld_check.specs.declared.checked.CheckFault.{CheckFault}
use Rattle.ld_check.specs.declared.checked.CheckFault.TheVariants.{Stream, Memory, Uneven}

-- want of memory, or else the stream's own fault
abbrev pub check_fault_of_stream : StreamFault → CheckFault
check_fault_of_stream stream_faults.Memory = Memory
check_fault_of_stream fault = Stream fault

-- the same fault
abbrev pub check_fault_of_work : WorkFault → CheckFault
check_fault_of_work work_faults.Memory = Memory
check_fault_of_work (work_faults.Uneven number) = Uneven number
