-- What is kept and counted anew shows together what all sources do.
use Rattle.std.proofs.Common.{◌≡◌, ◌∙◌, ◌+◌, ◌-◌, ◌<◌, ◌≤◌, ◌&&◌, ◌||◌, inl, inr, ℕ, Bool, true, List, [], ◌∷◌, filter, length, Option, Some, None, option_map, All, refl, ap, sym, subst, arith}
use Rattle.std.proofs.lemmas.Bool.{or_left}
use Rattle.std.proofs.lemmas.List.Elements.{All-cons, All-nil}
use Rattle.std.proofs.lemmas.List.Kept.{AllPairs-cons}
use Rattle.std.specs.Option.{option_or}
use Rattle.ld_trace.specs.Lines.{lines}
use Rattle.ld_trace.specs.Sources.{PlainSource}
use Rattle.ld_trace.specs.Events.{PlainEvent}
use Rattle.ld_rules.specs.Dependency.{dependencies_at, least_line, same_dependency}
use Rattle.ld_rules.specs.Outcome.{outcome}
use Rattle.ld_rules.specs.Union.{first_witness}
use Rattle.ld_rules.specs.Usage.{same_use, uses_at}
use Rattle.ld_batch.specs.Batch.{AreRising}
use Rattle.ld_reduce.specs.Written.{counted_anew, counted_from, ended}
use Rattle.ld_book.specs.Totals.{is_refused}
use Rattle.ld_reduce.specs.Kept.{AreKept, IsFirst}
use Rattle.ld_origin.specs.Origin.{origin_by, origin_of}
use Rattle.ld_reduce.specs.Same.{HaveSameUnion, Place, place_of}
use Rattle.ld_reduce.proofs.MovedLemmas.{line_within, shown_by, within-same}
use Rattle.ld_reduce.proofs.TextLemmas.{texts-ended}
use Rattle.ld_reduce.proofs.WitnessLemmas.{as_place, first-kept, first_said, place-is, said_in}

-- the numbers that are counted rise
counted-from : (m n line : ℕ) (all : List PlainSource) → m ≤ n → All (λ t. m ≤ t.number) (counted_from n line all)
counted-from m n line [] low = All-nil (λ t. m ≤ t.number)
counted-from m n line (s ∷ others) low =
    All-cons (λ t. m ≤ t.number) _ _ low (counted-from m (n + 1) (line + 1 + length (lines (ended s.bytes))) others (omega arith))

pub counted-rising : (n line : ℕ) (all : List PlainSource) → AreRising (counted_from n line all)
counted-rising n line [] = λ i j d before within. absurd (omega arith)
counted-rising n line (s ∷ others) =
    let more = line + 1 + length (lines (ended s.bytes)) in
    AllPairs-cons (λ a b. a.number < b.number) _ _
    (λ k d within. let low = counted-from (n + 1) (n + 1) more others (omega arith) k d within in omega (arith, low))
    (counted-rising (n + 1) more others)

-- A trace as it is counted anew.
abbrev pub counted : ℕ → ℕ → PlainSource → PlainSource
counted number first_line s = record { number = number; label = s.label; first_line = first_line; bytes = ended s.bytes }

module _ {A : Type 0} (same : A → A → Bool) (at : List PlainEvent → PlainEvent → List A) (what : A) where
  -- where a trace shows it, whatever its number and its first line
  abbrev place_in : PlainSource → Option Place
  place_in s = said_in same (shown_by same at) what (as_place same (shown_by same at) what) s

  by_line : (s : PlainSource) → place_in s ≡ option_map (λ line. record { label = s.label; origin = origin_of s.bytes; line = line }) (line_within same at what s)
  by_line s = by (least_line same (shown_by same at s) what)
    where
      by : (line : Option ℕ) → option_map (as_place same (shown_by same at) what s) line ≡ option_map (λ line. record { label = s.label; origin = origin_of s.bytes; line = line }) (option_map (λ line. line - s.first_line) line)
      by None = refl
      by (Some line) = refl

  place-counted : (number first_line : ℕ) (s : PlainSource) → place_in (counted number first_line s) ≡ place_in s
  place-counted number first_line s =
      by_line (counted number first_line s)
      ∙ ap (λ texts. option_map (λ line. record { label = s.label; origin = origin_by texts; line = line }) (line_within same at what (counted number first_line s))) (texts-ended s.bytes)
      ∙ ap (option_map (λ line. record { label = s.label; origin = origin_of s.bytes; line = line })) (within-same same at what (counted number first_line s) s (texts-ended s.bytes))
      ∙ sym (by_line s)

  abbrev places : List PlainSource → Option Place
  places = first_said same (shown_by same at) what (as_place same (shown_by same at) what)

  places-counted : (n line : ℕ) (all : List PlainSource) → places (counted_from n line all) ≡ places all
  places-counted n line [] = refl
  places-counted n line (s ∷ others) = λ i. option_or (place-counted n (line + 2) s i) (places-counted (n + 1) (line + 1 + length (lines (ended s.bytes))) others i)

  -- so the first places are the same
  pub same_places : (keeps : PlainSource → Bool) (sources : List PlainSource) → AreRising sources
      → ((s : PlainSource) (line : ℕ) → first_witness same (shown_by same at) sources what ≡ Some (record { number = s.number; line = line }) → keeps s ≡ true)
      → option_map (place_of sources) (first_witness same (shown_by same at) sources what)
      ≡ option_map (place_of (counted_anew (filter keeps sources))) (first_witness same (shown_by same at) (counted_anew (filter keeps sources)) what)
  same_places keeps sources rise first =
      place-is same (shown_by same at) what sources rise
      ∙ sym (first-kept same (shown_by same at) what (as_place same (shown_by same at) what) keeps sources rise first)
      ∙ sym (places-counted 0 0 (filter keeps sources))
      ∙ sym (place-is same (shown_by same at) what (counted_anew (filter keeps sources)) (counted-rising 0 0 (filter keeps sources)))

-- the traces that are kept have the same union
pub union-kept : (refused : Bool) (sources kept : List PlainSource) → AreRising sources → AreKept refused sources kept → HaveSameUnion sources (counted_anew kept)
union-kept refused sources kept rise is =
    let keeps : PlainSource → Bool = λ s. is.is_first s.number || (refused && is_refused (outcome s)) in
    let kept_first : (s : PlainSource) → IsFirst sources s.number → keeps s ≡ true =
    λ s first. or_left (is.is_first s.number) (refused && is_refused (outcome s)) ((is.exact s.number).1 first) in
    subst (λ k. HaveSameUnion sources (counted_anew k)) (sym is.are) (record {
      dependencies = λ what. same_places same_dependency dependencies_at what keeps sources rise
          (λ s line there. kept_first s (inl (what, (line, there))));
      uses = λ what. same_places same_use uses_at what keeps sources rise
          (λ s line there. kept_first s (inr (what, (line, there))));
    })
