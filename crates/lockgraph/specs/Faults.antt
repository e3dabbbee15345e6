-- Why it isn't told what is new, by why there is no book, or no report of what is new; why there is no reduced
-- stream; and what the program says of that.
use Rattle.std.specs.Borrow.{Bor}
use Rattle.std.specs.Prelude.{ℕ, List}
use Rattle.ld_check.specs.declared.checked.CheckFault.{CheckFault}
use Rattle.ld_check.specs.declared.checked.CheckFault.TheVariants as check_faults
use Rattle.ld_baseline.specs.declared.news.SelectFault.{SelectFault}
use Rattle.ld_baseline.specs.declared.news.SelectFault.TheVariants as select_faults
use Rattle.ld_files.specs.declared.fault.Fault.{Fault}
use Rattle.ld_files.specs.declared.fault.Fault.TheVariants as faults
use Rattle.lockgraph.specs.declared.reduce.ReduceFault.{ReduceFault}
use Rattle.lockgraph.specs.declared.reduce.ReduceFault.TheVariants as reduce_faults
use Rattle.lockgraph.specs.declared.news.NewsFault.{NewsFault}
use Rattle.lockgraph.specs.declared.news.NewsFault.TheVariants.{Stream, UnknownLine, Write, Memory, Uneven}

-- the same fault
abbrev pub news_fault_of_check : CheckFault → NewsFault
news_fault_of_check (check_faults.Stream fault) = Stream fault
news_fault_of_check check_faults.Memory = Memory
news_fault_of_check (check_faults.Uneven number) = Uneven number

-- the same fault
abbrev pub news_fault_of_select : SelectFault → NewsFault
news_fault_of_select (select_faults.UnknownLine line) = UnknownLine line
news_fault_of_select select_faults.Memory = Memory

-- the same fault, that of the known text with its name
abbrev pub fault_of_news : Bor (List ℕ) → NewsFault → Fault
fault_of_news known (Stream fault) = faults.Together fault
fault_of_news known (UnknownLine line) = faults.UnknownLine known line
fault_of_news known Write = faults.Write
fault_of_news known Memory = faults.Memory
fault_of_news known (Uneven number) = faults.Uneven number

-- the same fault
abbrev pub reduce_fault_of_check : CheckFault → ReduceFault
reduce_fault_of_check (check_faults.Stream fault) = reduce_faults.Stream fault
reduce_fault_of_check check_faults.Memory = reduce_faults.Memory
reduce_fault_of_check (check_faults.Uneven number) = reduce_faults.Uneven number

-- the same fault
abbrev pub fault_of_reduce : ReduceFault → Fault
fault_of_reduce (reduce_faults.Stream fault) = faults.Together fault
fault_of_reduce reduce_faults.Write = faults.Write
fault_of_reduce reduce_faults.Memory = faults.Memory
fault_of_reduce (reduce_faults.Uneven number) = faults.Uneven number
