use Rattle.std.specs.Prelude.{◌≡◌, ◌≤◌, length, map, take}
use Rattle.ld_trace.specs.Sources.{plain}
use Rattle.ld_batch.specs.Batch.{sources_of}
use Rattle.ld_work.proofs.even.first_uneven.Given as goal

-- so far each source is listed at its place
abbrev pub invariant-loop-place : goal.invariant-loop-place
invariant-loop-place l =
    (l.place ≤ length l.listed) × (take l.place (sources_of l.listed) ≡ take l.place (map plain l.sources))
