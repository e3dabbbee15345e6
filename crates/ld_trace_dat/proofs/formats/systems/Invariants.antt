-- What was read and what is left are all systems.
use Rattle.std.proofs.Common.{◌≡◌, ◌-◌, map}
use Rattle.ld_trace_dat.specs.Lists.{many, plain_system, system_at, systems}
use Rattle.ld_trace_dat.proofs.ManyLemmas.{with_front}
use Rattle.ld_trace_dat.proofs.formats.systems.Given as goal

abbrev pub invariant-loop : goal.invariant-loop
invariant-loop l = with_front (map plain_system l.found.items) (many (system_at l.bytes) (l.count - l.counter) l.next) ≡ systems l.bytes l.at
