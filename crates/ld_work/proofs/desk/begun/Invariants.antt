use Rattle.std.specs.Prelude.{◌≡◌, ◌+◌, All, [], vec_len}
use Rattle.ld_work.specs.Desk.{tally_of}
use Rattle.ld_work.proofs.desk.begun.Given as goal

abbrev pub invariant-loop : goal.invariant-loop
invariant-loop g l =
    (l.no_traces.parts + l.counter ≡ l.feeders) × (l.no_traces.amount ≡ 0)
    × (l.no_events.parts + l.counter ≡ l.feeders) × (l.no_events.amount ≡ 0)
    × (vec_len l.made ≡ l.counter) × All (λ tally. tally ≡ tally_of []) l.made.items
