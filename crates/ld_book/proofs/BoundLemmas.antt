-- How many traces, events and classes a book has at most.
use Rattle.std.proofs.Common.{◌≡◌, ◌+◌, ◌*◌, ◌^◌, ◌<◌, ◌≤◌, ◌==◌, ◌∷◌, [], All, List, ℕ, Bool, true, false, Option, Some, None, length, map}
use Rattle.std.proofs.Common.{filter_map, slice_get, sym, ap, subst, ◌∙◌, arith, if◌then◌else◌, nat_eq}
use Rattle.std.proofs.lemmas.Bool.{eqb-true}
use Rattle.std.proofs.lemmas.List.{length-map}
use Rattle.std.proofs.lemmas.List.Elements.{All-contains, All-map}
use Rattle.std.proofs.lemmas.List.Sums.{sum_by-le}
use Rattle.std.proofs.lemmas.Map.Steps.{length-le_from_distinct_below}
use Rattle.std.specs.List.{IsDistinct, cons_option, enumerate_from, onto_first}
use Rattle.indexmap.proofs.CallerLemmas.{Contains-list_any}
use Rattle.ld_trace.specs.declared.source.TheConstants.{LONGEST_STREAM, MOST_TRACES}
use Rattle.ld_trace.specs.Lines.{lines, text_of}
use Rattle.ld_trace.specs.Sources.{Fits, PlainSource, plain}
use Rattle.ld_trace.specs.Events.{position_of, positions, said_by}
use Rattle.ld_rules.specs.declared.outcome.Listed.{Listed}
use Rattle.ld_facts.specs.Outcome.{FaultyLine, faulty_lines, outcome, outcome_by}
use Rattle.ld_batch.specs.Batch.{sources_of}
use Rattle.ld_book.specs.Totals.{event_count, events_read}

-- traces of distinct numbers are few
pub few_listed : (listed : List Listed) (keys : List ℕ) → keys ≡ map (λ l. l.source.number) listed → All (λ l. Fits (plain l.source)) listed → IsDistinct nat_eq keys → length listed ≤ MOST_TRACES
few_listed listed keys numbers fit distinct =
    let each : All (λ n. n < MOST_TRACES) keys = subst (All (λ n. n < MOST_TRACES)) (sym numbers)
    (All-map (λ n. n < MOST_TRACES) (λ (l : Listed). l.source.number) listed (λ k d within. (fit k d within).number)) in
    let few : length keys ≤ MOST_TRACES = length-le_from_distinct_below keys MOST_TRACES distinct
    (λ q there. All-contains (λ n. n < MOST_TRACES) keys q each (Contains-list_any nat_eq eqb-true keys q there)) in
    subst (λ n. n ≤ MOST_TRACES) (ap length numbers ∙ length-map listed (λ l. l.source.number)) few

-- there are no more lines than bytes
length-onto_first : (b : ℕ) (all : List (List ℕ)) → length (onto_first b all) ≤ length all + 1
length-onto_first b [] = omega arith
length-onto_first b (line ∷ all) = omega arith

length-lines : (bytes : List ℕ) → length (lines bytes) ≤ length bytes
length-lines [] = omega arith
length-lines (b ∷ bytes) = by (length-lines bytes) (length-onto_first b (lines bytes)) (b == 10)
  where
    by : length (lines bytes) ≤ length bytes → length (onto_first b (lines bytes)) ≤ length (lines bytes) + 1 → (test : Bool) → length
        (if test then (b ∷ []) ∷ lines bytes else onto_first b (lines bytes)) ≤ length (b ∷ bytes)
    by others more true = omega arith
    by others more false = omega arith

-- what is picked of a list is no more than it has
length-picked : {X Y : Type 0} (f : ℕ × X → Option Y) (n : ℕ) (xs : List X) → length (filter_map f (enumerate_from n xs)) ≤ length xs
length-picked f n [] = omega arith
length-picked f n (x ∷ xs) = by (length-picked f (n + 1) xs) (f (n, x))
  where
    by : length (filter_map f (enumerate_from (n + 1) xs)) ≤ length xs → (r : Option _) → length (cons_option r (filter_map f (enumerate_from (n + 1) xs))) ≤ length (x ∷ xs)
    by others None = omega arith
    by others (Some y) = omega arith

events_read-by : (count : ℕ) (first : Option FaultyLine) → events_read (outcome_by count first) ≤ count
events_read-by count None = omega arith
events_read-by count (Some first) = omega arith

-- a source has no more events than bytes
pub few_events : (source : PlainSource) → Fits source → events_read (outcome source) ≤ LONGEST_STREAM
few_events source fits =
    let read = events_read-by (length (positions source)) (slice_get (faulty_lines (positions source)) 0) in
    let said = length-picked (λ p. position_of p.0 (said_by (text_of p.1))) source.first_line (lines source.bytes) in
    let cut = length-lines source.bytes in
    omega (arith, fits.bytes)

-- so the events of few sources can be counted
pub events_bounded : (sources : List PlainSource) → All Fits sources → event_count sources ≤ length sources * LONGEST_STREAM
events_bounded sources fit = sum_by-le (λ source. events_read (outcome source)) LONGEST_STREAM sources (λ k d within. few_events _ (fit k d within))

pub events_fit : (listed : List Listed) (keys : List ℕ) (count more : ℕ) (source : PlainSource) → keys ≡ map (λ l. l.source.number) listed → All
    (λ l. Fits (plain l.source)) listed → IsDistinct nat_eq keys
    → count ≡ event_count (sources_of listed) → more ≡ events_read (outcome source) → Fits source → count + more < 2 ^ 64
events_fit listed keys count more source numbers fit distinct counted more_is fits =
    let few : length listed ≤ MOST_TRACES = few_listed listed keys numbers fit distinct in
    let same : length (sources_of listed) ≡ length listed = length-map listed (λ l. plain l.source) in
    let old : event_count (sources_of listed) ≤ length (sources_of listed) * LONGEST_STREAM = events_bounded (sources_of listed) (All-map Fits (λ (l : Listed). plain l.source) listed fit) in
    let new : events_read (outcome source) ≤ LONGEST_STREAM = few_events source fits in
    omega arith
