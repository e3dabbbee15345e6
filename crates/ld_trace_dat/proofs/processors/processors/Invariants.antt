-- What was read and what is left are all processors.
use Rattle.std.proofs.Common.{◌≡◌, ◌-◌, map}
use Rattle.ld_trace_dat.specs.Lists.{many}
use Rattle.ld_trace_dat.specs.Recordings.{plain_processor, processor_at, processors}
use Rattle.ld_trace_dat.proofs.ManyLemmas.{with_front}
use Rattle.ld_trace_dat.proofs.processors.processors.Given as goal

abbrev pub invariant-loop : goal.invariant-loop
invariant-loop l = with_front (map plain_processor l.found.items) (many (processor_at l.table l.bytes l.version) (l.count - l.counter) l.row) ≡ processors l.table l.bytes l.version l.count l.fn.first
