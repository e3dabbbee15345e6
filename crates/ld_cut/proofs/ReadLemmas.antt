-- A trace that isn't rejected has no header among its lines.
use Rattle.std.proofs.Common.{get_or, ◌≡◌, ◌∙◌, ◌+◌, ◌||◌, ℕ, Bool, true, false, cond, arith, List, [], ◌∷◌, length, filter_map, take, Option, Some, None, Result, Ok, Err, All, option_map, slice_get, refl, ap, sym, codes}
use Rattle.std.specs.Prelude.{count_by, ◌==◌}
use Rattle.std.proofs.lemmas.List.Elements.{All-cons, All-nil}
use Rattle.std.proofs.lemmas.List.Sums.{sum_by-cons}
use Rattle.std.proofs.lemmas.Slice.Eq.{bytes_eq-Decides}
use Rattle.std.specs.List.{cons_option, enumerate_from, list_any}
use Rattle.ld_trace.specs.declared.event.LineFault.{LineFault}
use Rattle.ld_trace.specs.declared.event.LineFault.TheVariants.{BadVerb}
use Rattle.ld_trace.specs.Lines.{fields, lines, text_of}
use Rattle.ld_trace.specs.Sources.{Fits, PlainSource, begins_trace, is_header}
use Rattle.ld_trace.specs.Events.{PlainEvent, Position, Said, position_of, positions, said_by, said_by_fields}
use Rattle.ld_rules.specs.declared.outcome.Outcome.{Outcome}
use Rattle.ld_rules.specs.Outcome.{FaultyLine, events, faulty_lines, outcome, outcome_by, said_fault}
use Rattle.ld_reduce.specs.OfBook.Totals.{is_refused, refused_count}
use Rattle.ld_reduce.specs.Written.{IsTrace}
use Rattle.ld_cut.specs.Alike.{AreRead}

-- a header says no event
header-bad : (found : List (List ℕ)) → begins_trace found ≡ true → said_by_fields found ≡ Err BadVerb
header-bad [] header = absurd (cc)
header-bad (first ∷ others) header = rw ((bytes_eq-Decides first (codes "trace")).0 header) refl

module _ (past : ℕ → List PlainEvent) where
  abbrev faulty_from : ℕ → List Position → List FaultyLine
  faulty_from k all = filter_map (λ p. option_map (λ fault. record { line = p.1.line; fault = fault }) (said_fault (past p.0) p.1.says)) (enumerate_from k all)

  abbrev positions_from : ℕ → List (List ℕ) → List Position
  positions_from n all = filter_map (λ p. position_of p.0 (said_by (text_of p.1))) (enumerate_from n all)

  none-first : {X : Type 0} (one : Option X) (others : List X) → cons_option one others ≡ [] → others ≡ []
  none-first None others is = is
  none-first (Some x) others is = absurd (cc)

  no_header : (k n : ℕ) (all : List (List ℕ)) → faulty_from k (positions_from n all) ≡ [] → list_any is_header all ≡ false
  no_header k n [] none = refl
  no_header k n (line ∷ all) none = by (λ j. no_header j (n + 1) all) (is_header line) refl (said_by (text_of line)) refl none
    where
      by : ((j : ℕ) → faulty_from j (positions_from (n + 1) all) ≡ [] → list_any is_header all ≡ false) → (test : Bool) → is_header line ≡ test → (said : Said) → said_by (text_of line) ≡ said
          → faulty_from k (cons_option (position_of n said) (positions_from (n + 1) all)) ≡ [] → (test || list_any is_header all) ≡ false
      by rest true header said is none =
          let bad : said ≡ Err BadVerb = sym is ∙ header-bad (fields (text_of line)) header in
          let first : faulty_from k (cons_option (position_of n (Err BadVerb)) (positions_from (n + 1) all)) ≡ [] = ap (λ s. faulty_from k (cons_option (position_of n s) (positions_from (n + 1) all))) (sym bad) ∙ none in
          absurd (cc)
      by rest false other (Ok None) is none = rest k none
      by rest false other (Ok (Some e)) is none = rest (k + 1) (none-first (option_map (λ fault. record { line = n; fault = fault }) (said_fault (past k) (Ok e))) _ none)
      by rest false other (Err fault) is none = absurd (cc)

no-faults : (count : ℕ) (faults : List FaultyLine) → is_refused (outcome_by count (slice_get faults 0)) ≡ false → faults ≡ []
no-faults count [] read = refl
no-faults count (f ∷ faults) read = absurd (let no : true ≡ false = read in cc)

pub read-no_header : (source : PlainSource) → is_refused (outcome source) ≡ false → list_any is_header (lines source.bytes) ≡ false
read-no_header source read =
    no_header (λ n. events (take n (positions source))) 0 source.first_line (lines source.bytes) (no-faults (length (positions source)) (faulty_lines (positions source)) read)

-- where none is counted all fail
none-counted : {X : Type 0} (p : X → Bool) (xs : List X) → count_by p xs ≡ 0 → All (λ x. p x ≡ false) xs
none-counted p [] none = All-nil (λ x. p x ≡ false)
none-counted p (x ∷ xs) none = by (none-counted p xs) (p x) refl (sym (sum_by-cons (λ y. cond (p y) 1 0) x xs) ∙ none)
  where
    by : (count_by p xs ≡ 0 → All (λ y. p y ≡ false) xs) → (test : Bool) → p x ≡ test → cond test 1 0 + count_by p xs ≡ 0 → All (λ x. p x ≡ false) (x ∷ xs)
    by rest true is none = absurd (omega arith)
    by rest false is none = All-cons (λ y. p y ≡ false) x xs is (rest (omega arith))

pub are-read : (sources : List PlainSource) → refused_count sources ≡ 0 → AreRead sources
are-read sources none = none-counted (λ source. is_refused (outcome source)) sources none

pub are-traces : (sources : List PlainSource) → All Fits sources → AreRead sources → All IsTrace sources
are-traces sources fit read k d within = record {
  label = (fit k d within).label;
  lines = read-no_header (get_or sources k d) (read k d within);
}
