-- A line that says where a trace comes from changes nothing of what the trace shows, nor where.
use Rattle.std.proofs.Common.{◌≡◌, ◌∙◌, ◌+◌, ◌-◌, ◌<◌, ◌≤◌, ◌&&◌, ◌||◌, inl, inr, ℕ, Bool, true, false, cond, List, [], ◌∷◌, ◌++◌, filter, filter_map, get_or, length, map, Option, Some, None, option_map, All, slice_get, refl, ap, sym, append-nil, append_assoc, arith, codes}
use Rattle.std.proofs.lemmas.List.{get_or-map, length-map}
use Rattle.std.proofs.lemmas.List.Elements.{All-cons, All-head, All-nil, All-tail, filter_map-append}
use Rattle.std.specs.Bool.{Decides}
use Rattle.std.specs.List.{cons_option, enumerate_from, list_any}
use Rattle.ld_trace.specs.Lines.{lines, text_of}
use Rattle.ld_trace.specs.Sources.{PlainSource, is_header}
use Rattle.ld_trace.specs.Events.{PlainEvent, Position, Said, position_of, positions, said_by}
use Rattle.ld_rules.specs.declared.outcome.Witness.{Witness}
use Rattle.ld_rules.specs.Dependency.{dependencies_at, least_line, same_dependency, seen}
use Rattle.ld_rules.specs.Outcome.{faulty_lines, outcome, outcome_by}
use Rattle.ld_rules.specs.Union.{first_of, first_witness, if_read}
use Rattle.ld_rules.specs.Usage.{same_use, uses_at}
use Rattle.ld_batch.specs.Batch.{AreRising}
use Rattle.ld_book.specs.Totals.{is_refused}
use Rattle.ld_reduce.specs.Kept.{AreKept, IsFirst, keeps}
use Rattle.ld_origin.specs.Origin.{PlainHome, lacking, mark_of, marked, marked_with, origin_from, origin_line, origin_of}
use Rattle.ld_reduce.specs.Same.{HaveSameWitnesses}
use Rattle.ld_reduce.specs.Written.{IsTrace, ended, header, trace_text}
use Rattle.ld_reduce.proofs.MovedLemmas.{shown_by}
use Rattle.ld_reduce.proofs.TextLemmas.{ended-behind}
use Rattle.ld_origin.proofs.OriginLemmas.{home-said, origin-line, origin-no_header, origin-silent}

-- a header stands before its lines
abbrev pub HasHead : PlainSource → Type 0
HasHead source = 1 ≤ source.first_line

-- the number stays
number-with : (home : Option PlainHome) (s : PlainSource) → (marked_with home s).number ≡ s.number
number-with None s = refl
number-with (Some home) s = refl

-- and so do the positions
positions-with : (home : Option PlainHome) (s : PlainSource) → HasHead s → positions (marked_with home s) ≡ positions s
positions-with None s low = refl
positions-with (Some home) s low =
    let line = origin_line (origin_from home) in
    let k = s.first_line - 1 in
    let next : k + 1 ≡ s.first_line = omega (arith, low) in
    ap (λ all. filter_map (λ p. position_of p.0 (said_by (text_of p.1))) (enumerate_from k all)) (origin-line (origin_from home) (home-said home) s.bytes)
    ∙ ap (λ (said : Said). cons_option (position_of k said) (filter_map (λ p. position_of p.0 (said_by (text_of p.1))) (enumerate_from (k + 1) (lines s.bytes)))) (origin-silent (origin_from home) (home-said home))
    ∙ ap (λ n. filter_map (λ p. position_of p.0 (said_by (text_of p.1))) (enumerate_from n (lines s.bytes))) next

trace-with : (home : Option PlainHome) (s : PlainSource) → IsTrace s → IsTrace (marked_with home s)
trace-with None s is = is
trace-with (Some home) s is = record {
  label = is.label;
  lines =
      ap (list_any is_header) (origin-line (origin_from home) (home-said home) s.bytes)
      ∙ (λ i. origin-no_header (origin_from home) (home-said home) i || is.lines i);
}

-- what is written of it
pub text-with : (home : Option PlainHome) (s : PlainSource) → trace_text (marked_with home s) ≡ (header s.label ++ mark_of home) ++ ended s.bytes
text-with None s = ap (λ o. o ++ ended s.bytes) (sym (append-nil (header s.label)))
text-with (Some home) s =
    let origin = origin_from home in
    let front = codes "# from " ++ (origin.file ++ 32 ∷ origin.line) in
    let line : origin_line origin ≡ front ++ 10 ∷ [] = ap (λ o. codes "# from " ++ o) (sym (append_assoc origin.file (32 ∷ origin.line) (10 ∷ []))) in
    ap (λ o. header s.label ++ ended (o ++ s.bytes)) line
    ∙ ap (λ o. header s.label ++ o) (ended-behind front s.bytes)
    ∙ ap (λ o. header s.label ++ (o ++ ended s.bytes)) (sym line)
    ∙ sym (append_assoc (header s.label) (origin_line origin) (ended s.bytes))

module _ (homes : List PlainHome) where
  abbrev missing : PlainSource → Option PlainHome
  missing s = lacking (slice_get homes s.number) (origin_of s.bytes)

  pub number-marked : (s : PlainSource) → (marked homes s).number ≡ s.number
  number-marked s = number-with (missing s) s

  pub positions-marked : (s : PlainSource) → HasHead s → positions (marked homes s) ≡ positions s
  positions-marked s low = positions-with (missing s) s low

  outcome-marked : (s : PlainSource) → HasHead s → outcome (marked homes s) ≡ outcome s
  outcome-marked s low = ap (λ (all : List Position). outcome_by (length all) (slice_get (faulty_lines all) 0)) (positions-marked s low)

  pub traces-marked : (all : List PlainSource) → All IsTrace all → All IsTrace (map (marked homes) all)
  traces-marked [] are = All-nil IsTrace
  traces-marked (s ∷ others) are =
      All-cons IsTrace (marked homes s) (map (marked homes) others) (trace-with (missing s) s (All-head IsTrace s others are)) (traces-marked others (All-tail IsTrace s others are))

  pub rising-marked : (all : List PlainSource) → AreRising all → AreRising (map (marked homes) all)
  rising-marked all rise i j d before within =
      let long = length-map all (marked homes) in
      let inside : j < length all = omega (arith, within, long) in
      let low = rise i j d before inside in
      let one : (get_or (map (marked homes) all) i d).number ≡ (get_or all i d).number =
      ap (λ (s : PlainSource). s.number) (get_or-map (marked homes) all i d d (omega (arith, before, inside))) ∙ number-marked (get_or all i d) in
      let two : (get_or (map (marked homes) all) j d).number ≡ (get_or all j d).number =
      ap (λ (s : PlainSource). s.number) (get_or-map (marked homes) all j d d inside) ∙ number-marked (get_or all j d) in
      omega (arith, low, one, two)

  -- What they show.

  module _ {A : Type 0} (same : A → A → Bool) (at : List PlainEvent → PlainEvent → List A) (what : A) where
    abbrev witness_in : PlainSource → Option Witness
    witness_in s = option_map (λ line. record { number = s.number; line = line }) (least_line same (shown_by same at s) what)

    one-marked : (s : PlainSource) → HasHead s → witness_in (marked homes s) ≡ witness_in s
    one-marked s low =
        (λ i. option_map (λ line. record { number = number-marked s i; line = line }) (least_line same (shown_by same at (marked homes s)) what))
        ∙ ap (λ (all : List Position). option_map (λ line. record { number = s.number; line = line }) (least_line same (if_read (outcome_by (length all) (slice_get (faulty_lines all) 0)) (seen at all)) what)) (positions-marked s low)

    pub witnesses-marked : (all : List PlainSource) → All HasHead all → filter_map witness_in (map (marked homes) all) ≡ filter_map witness_in all
    witnesses-marked [] low = refl
    witnesses-marked (s ∷ others) low =
        λ i. cons_option (one-marked s (All-head HasHead s others low) i) (witnesses-marked others (All-tail HasHead s others low) i)

  pub same-marked : (all : List PlainSource) → All HasHead all → HaveSameWitnesses all (map (marked homes) all)
  same-marked all low = record {
    dependencies = λ what. ap first_of (sym (witnesses-marked same_dependency dependencies_at what all low));
    uses = λ what. ap first_of (sym (witnesses-marked same_use uses_at what all low));
  }

  -- Which are kept.

  keeps-marked : (is_first : ℕ → Bool) (refused : Bool) (s : PlainSource) → HasHead s → keeps is_first refused (marked homes s) ≡ keeps is_first refused s
  keeps-marked is_first refused s low = λ i. is_first (number-marked s i) || (refused && is_refused (outcome-marked s low i))

  filter-marked : (is_first : ℕ → Bool) (refused : Bool) (all : List PlainSource) → All HasHead all
      → map (marked homes) (filter (keeps is_first refused) all) ≡ filter (keeps is_first refused) (map (marked homes) all)
  filter-marked is_first refused [] low = refl
  filter-marked is_first refused (s ∷ others) low =
      by (keeps is_first refused s) (filter-marked is_first refused others (All-tail HasHead s others low))
      ∙ ap (λ test. cond test (marked homes s ∷ filter (keeps is_first refused) (map (marked homes) others)) (filter (keeps is_first refused) (map (marked homes) others)))
      (sym (keeps-marked is_first refused s (All-head HasHead s others low)))
    where
      by : (test : Bool) → map (marked homes) (filter (keeps is_first refused) others) ≡ filter (keeps is_first refused) (map (marked homes) others)
          → map (marked homes) (cond test (s ∷ filter (keeps is_first refused) others) (filter (keeps is_first refused) others))
          ≡ cond test (marked homes s ∷ filter (keeps is_first refused) (map (marked homes) others)) (filter (keeps is_first refused) (map (marked homes) others))
      by true rest = ap (λ o. marked homes s ∷ o) rest
      by false rest = rest

  first-marked : (all : List PlainSource) → All HasHead all → (number : ℕ) (has : Bool) → Decides has (IsFirst all number) → Decides has (IsFirst (map (marked homes) all) number)
  first-marked all low number has is = (λ there. to (is.0 there), λ first. is.1 (from first))
    where
      alike : HaveSameWitnesses all (map (marked homes) all)
      alike = same-marked all low

      to : IsFirst all number → IsFirst (map (marked homes) all) number
      to (inl what) = inl (what.0, (what.1.0, sym (alike.dependencies what.0) ∙ what.1.1))
      to (inr what) = inr (what.0, (what.1.0, sym (alike.uses what.0) ∙ what.1.1))

      from : IsFirst (map (marked homes) all) number → IsFirst all number
      from (inl what) = inl (what.0, (what.1.0, alike.dependencies what.0 ∙ what.1.1))
      from (inr what) = inr (what.0, (what.1.0, alike.uses what.0 ∙ what.1.1))

  pub kept-marked : (refused : Bool) (all kept : List PlainSource) → All HasHead all → AreKept refused all kept → AreKept refused (map (marked homes) all) (map (marked homes) kept)
  kept-marked refused all kept low are = record {
    is_first = are.is_first;
    exact = λ number. first-marked all low number (are.is_first number) (are.exact number);
    are = ap (map (marked homes)) are.are ∙ filter-marked are.is_first refused all low;
  }

-- Traces of two streams, each with its own homes, show together what they do without their lines.
module _ (homes others : List PlainHome) (all more : List PlainSource) (low : All HasHead all) (more_low : All HasHead more) where
  pub both-marked : HaveSameWitnesses (all ++ more) (map (marked homes) all ++ map (marked others) more)
  both-marked = record {
    dependencies = λ what. both same_dependency dependencies_at what;
    uses = λ what. both same_use uses_at what;
  }
    where
      both : {A : Type 0} (same : A → A → Bool) (at : List PlainEvent → PlainEvent → List A) (what : A)
          → first_witness same (shown_by same at) (all ++ more) what ≡ first_witness same (shown_by same at) (map (marked homes) all ++ map (marked others) more) what
      both same at what =
          ap first_of
          (filter_map-append (witness_in homes same at what) all more
          ∙ sym (λ i. witnesses-marked homes same at what all low i ++ witnesses-marked others same at what more more_low i)
          ∙ sym (filter_map-append (witness_in homes same at what) (map (marked homes) all) (map (marked others) more)))
