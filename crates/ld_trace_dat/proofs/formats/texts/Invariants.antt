-- What was read and what is left are all texts.
use Rattle.std.proofs.Common.{◌≡◌, ◌-◌, map}
use Rattle.ld_trace_dat.specs.Parts.{long_sized}
use Rattle.ld_trace_dat.specs.Lists.{many, texts}
use Rattle.ld_trace_dat.proofs.ManyLemmas.{with_front}
use Rattle.ld_trace_dat.proofs.formats.texts.Given as goal

abbrev pub invariant-loop : goal.invariant-loop
invariant-loop l = with_front (map (λ t. t.now) l.found.items) (many (long_sized l.bytes) (l.count - l.counter) l.next) ≡ texts l.bytes l.at
