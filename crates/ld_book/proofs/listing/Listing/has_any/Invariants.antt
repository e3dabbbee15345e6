use Rattle.std.specs.Prelude.{◌≡◌, false, take}
use Rattle.ld_batch.specs.Batch.{sources_of}
use Rattle.ld_book.specs.Book.{is_any_listed}
use Rattle.ld_book.proofs.listing.Listing.has_any.Given as goal

abbrev pub invariant-loop-trace : goal.invariant-loop-trace
invariant-loop-trace l = is_any_listed l.self.sources (take l.trace-index (sources_of l.traces)) ≡ false
