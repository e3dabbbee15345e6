-- What is said of why there is no book.
use Rattle.ld_check.specs.declared.checked.CheckFault.{CheckFault}
use Rattle.ld_check.specs.declared.checked.CheckFault.TheVariants as check_faults
use Rattle.ld_files.specs.declared.fault.Fault.{Fault}
use Rattle.ld_files.specs.declared.fault.Fault.TheVariants as faults

-- the same fault
abbrev pub fault_of_check : CheckFault → Fault
fault_of_check (check_faults.Stream fault) = faults.Together fault
fault_of_check check_faults.Memory = faults.Memory
fault_of_check (check_faults.Uneven number) = faults.Uneven number
