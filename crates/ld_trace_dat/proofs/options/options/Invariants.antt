-- What is left says what all options say.
use Rattle.std.proofs.Common.{◌≡◌, ◌-◌, length}
use Rattle.ld_trace_dat.specs.Options.{options, start_at}
use Rattle.ld_trace_dat.proofs.options.options.Given as goal

abbrev pub invariant-loop : goal.invariant-loop
invariant-loop l = options l.bytes l.version (length l.bytes - l.counter) l.progress ≡ options l.bytes l.version (length l.bytes) (start_at l.at)
