use Rattle.std.specs.Prelude.{◌≡◌, ◌+◌, ◌≤◌, ◌++◌, length, take}
use Rattle.ld_batch.specs.Batch.{sources_of}
use Rattle.ld_book.proofs.listing.Listing.add_all.Given as goal

abbrev pub invariant-loop-trace : goal.invariant-loop-trace
invariant-loop-trace l = record {
  sources : l.self.sources ≡ l.fn.self.sources ++ take l.trace-index (sources_of l.traces);
  spare : length l.traces ≤ l.self.spare + l.trace-index;
}
