-- *Merge exact*: each item once, those of a processor in their order, by time.
use Rattle.std.specs.Prelude.{ℕ, ◌≡◌, ◌<◌, List, ◌++◌, None, get_or, length}
use Rattle.ld_pages.specs.declared.events.Events.{Events}
use Rattle.ld_pages.specs.Events.{Gives}
use Rattle.ld_merge.specs.declared.entry.Entry.{Entry}
use Rattle.ld_merge.specs.Order.{AreAfter, AreBelow, items_of}

-- Each processor's pages give its entries' items, each once, in their order. No entry is of another processor.
-- Times never fall, and of equal times the lowest processor is first.
pub record IsMerge (sources : List Events) (out : List Entry) : Type 0 where
  pub each : (k : ℕ) (d : Events) → k < length sources → Gives (get_or sources k d) (items_of k out) None
  pub known : AreBelow (length sources) out
  pub ordered : AreAfter None out

-- a list of entries grew by a merge
abbrev pub GrowsByMerge : List Events → List Entry → List Entry → Type 0
GrowsByMerge sources old new = (out : List Entry) × (new ≡ old ++ out) × IsMerge sources out
