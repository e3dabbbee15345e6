-- *Totals*.
use Rattle.std.specs.Prelude.{ℕ, Bool, true, false, List, length, count_by}
use Rattle.std.specs.List.{sum_by}
use Rattle.ld_trace.specs.Sources.{PlainSource}
use Rattle.ld_rules.specs.declared.outcome.Outcome.{Outcome}
use Rattle.ld_rules.specs.declared.outcome.Outcome.TheVariants.{Read, Refused}
use Rattle.ld_facts.specs.Outcome.{outcome}
use Rattle.ld_facts.specs.Union.{union_classes, union_dependencies}
use Rattle.ld_book.specs.declared.listing.Totals.{Totals}

abbrev pub is_refused : Outcome → Bool
is_refused (Read count) = false
is_refused (Refused line fault) = true

-- the events of a source that is read
abbrev pub events_read : Outcome → ℕ
events_read (Read count) = count
events_read (Refused line fault) = 0

-- how many of the sources are refused
abbrev pub refused_count : List PlainSource → ℕ
refused_count sources = count_by (λ source. is_refused (outcome source)) sources

-- the sum of the events over those that are read
abbrev pub event_count : List PlainSource → ℕ
event_count sources = sum_by (λ source. events_read (outcome source)) sources

-- Traces: the length of the list. Refused: how many are refused. Events: the sum over those that
-- are read. Classes and dependencies: the numbers of distinct ones in the union.
abbrev pub totals : List PlainSource → Totals
totals sources = record {
  traces = length sources;
  refused = refused_count sources;
  events = event_count sources;
  classes = length (union_classes sources);
  dependencies = length (union_dependencies sources);
}
