-- The report says `clean` exactly where its sources have no violation.
use Rattle.std.proofs.Common.{◌≡◌, ◌<◌, ◌+◌, ◌%◌, ◌/◌, ◌==◌, ◌++◌, ◌∷◌, [], ◌↔◌, ℕ, zero, suc, List, Bool, true, false, All, if◌then◌else◌}
use Rattle.std.proofs.Common.{◌∙◌, append-nil, append_assoc, ap, arith, codes, decimal, get_or, nat_lt, refl, reverse, subst, sym}
use Rattle.std.proofs.lemmas.Bool.{ne_eqb}
use Rattle.std.proofs.lemmas.List.{reverse-append}
use Rattle.std.proofs.lemmas.Nat.{mod_below}
use Rattle.std.specs.Fmt.{digit_glyph, digits, digits_onto}
use Rattle.ld_trace.specs.Sources.{PlainSource}
use Rattle.ld_rules.specs.declared.outcome.Outcome.{Outcome}
use Rattle.ld_rules.specs.declared.outcome.Outcome.TheVariants.{Read, Refused}
use Rattle.ld_rules.specs.Outcome.{name_of, outcome}
use Rattle.ld_book.specs.declared.listing.Totals.{Totals}
use Rattle.ld_book.specs.Findings.{AreFindings, IsConflictRow, IsCycleRow, IsForbiddenRow, PlainFindings}
use Rattle.ld_book.specs.Totals.{totals}
use Rattle.ld_book.specs.Violations.{HasViolation, IsViolation, Violation}
use Rattle.ld_book.specs.Violations.Violation.{Conflict, Cycle, Forbidden}
use Rattle.ld_report.specs.Report.{IsReport, SaysClean, last_line, refused_line, refused_lines, report_text, summary_line, violation_lines, violations}

-- these end with LF
abbrev EndsLine : List ℕ → Type 0
EndsLine text = (before : List ℕ) × (text ≡ before ++ codes "\n")

-- so does what ends with them
ends_after : (before text : List ℕ) → EndsLine text → EndsLine (before ++ text)
ends_after before text ends = (before ++ ends.0, ap (λ t. before ++ t) ends.1 ∙ sym (append_assoc before ends.0 (codes "\n")))

-- the summary does
summary_ends : (t : Totals) → EndsLine (summary_line t)
summary_ends t = (
  codes "traces " ++ decimal t.traces ++ codes " refused " ++ decimal t.refused ++ codes " events " ++ decimal t.events
      ++ codes " classes " ++ decimal t.classes ++ codes " dependencies " ++ decimal t.dependencies,
  refl,
)

-- behind the end of a line, the line of one source
refused_line_ends : (before label : List ℕ) (of : Outcome) → EndsLine before → EndsLine (before ++ refused_line label of)
refused_line_ends before label (Read count) ends = subst EndsLine (sym (append-nil before)) ends
refused_line_ends before label (Refused line fault) ends =
    ends_after before (refused_line label (Refused line fault))
    (codes "refused " ++ label ++ codes " line " ++ decimal line ++ codes " " ++ name_of fault, refl)

-- and those of many
refused_lines_end : (before : List ℕ) (sources : List PlainSource) → EndsLine before → EndsLine (before ++ refused_lines sources)
refused_lines_end before [] ends = subst EndsLine (sym (append-nil before)) ends
refused_lines_end before (s ∷ others) ends =
    let line = refused_line s.label (outcome s) in
    subst EndsLine (append_assoc before line (refused_lines others))
    (refused_lines_end (before ++ line) others (refused_line_ends before s.label (outcome s) ends))

-- the last digit of a number
abbrev last_glyph : ℕ → ℕ
last_glyph n = digit_glyph false (n % 10)

-- it is no letter
glyph_small : (n : ℕ) → last_glyph n < 97
glyph_small n = by (nat_lt (n % 10) 10)
  where
    by : (b : Bool) → (if b then 48 + n % 10 else 87 + n % 10) < 97
    by true = omega (arith, mod_below n 10 (omega arith))
    by false = omega (arith, mod_below n 10 (omega arith))

-- these end with the last digit of n, and the rest behind it
abbrev EndsWithDigit : ℕ → List ℕ → List ℕ → Type 0
EndsWithDigit n rest text = (before : List ℕ) × (text ≡ before ++ last_glyph n ∷ rest)

-- whether it is the only digit, or more stand in front of it
ends_if : (n : ℕ) (rest more : List ℕ) → EndsWithDigit n rest more → (b : Bool) → EndsWithDigit n rest (if b then last_glyph n ∷ rest else more)
ends_if n rest more ends true = ([], refl)
ends_if n rest more ends false = ends

-- digits are written from the last to the first, each in front of the others
digits_end : (k n : ℕ) (rest : List ℕ) → EndsWithDigit n rest (digits_onto (suc k) 10 false n rest)
digits_end zero n rest = ends_if n rest (last_glyph n ∷ rest) ([], refl) (n / 10 == 0)
digits_end (suc k) n rest =
    let front = digits_end k (n / 10) (last_glyph n ∷ rest) in
    ends_if n rest (digits_onto (suc k) 10 false (n / 10) (last_glyph n ∷ rest))
    (front.0 ++ last_glyph (n / 10) ∷ [], front.1 ∙ sym (append_assoc front.0 (last_glyph (n / 10) ∷ []) (last_glyph n ∷ rest))) (n / 10 == 0)

-- so a number ends with its last digit, whatever its length
decimal_ends : (n : ℕ) → EndsWithDigit n [] (decimal n)
unfolding digits
decimal_ends n = digits_end 63 n []

-- the last byte but one
last_but_one : (xs : List ℕ) (d : ℕ) → get_or (reverse (xs ++ d ∷ 10 ∷ [])) 1 0 ≡ d
last_but_one xs d = ap (λ t. get_or t 1 0) (reverse-append xs (d ∷ 10 ∷ []))

-- where there are rows, the last line isn't `clean`
not_clean : (text : List ℕ) (n : ℕ) → 0 < n → ¬ SaysClean (text ++ last_line n)
not_clean text n some clean = omega (arith, glyph_small n, same)
  where
    digits_of : EndsWithDigit n [] (decimal n)
    digits_of = decimal_ends n

    front : List ℕ
    front = text ++ (codes "violations " ++ digits_of.0)

    line : last_line n ≡ codes "violations " ++ (digits_of.0 ++ last_glyph n ∷ []) ++ codes "\n"
    line = rw (ne_eqb n 0 (λ none. omega arith)) (ap (λ t. codes "violations " ++ t ++ codes "\n") digits_of.1)

    texts : (clean.0 ++ codes "\nclea") ++ 110 ∷ 10 ∷ [] ≡ front ++ last_glyph n ∷ 10 ∷ []
    texts = append_assoc clean.0 (codes "\nclea") (110 ∷ 10 ∷ []) ∙ sym clean.1 ∙ ap (λ t. text ++ t) line ∙ simp append_assoc

    same : 110 ≡ last_glyph n
    same = sym (last_but_one (clean.0 ++ codes "\nclea") 110) ∙ ap (λ t. get_or (reverse t) 1 0) texts ∙ last_but_one front (last_glyph n)

-- where there is nothing of a kind, a list of that kind is empty
none_in : {Row : Type 0} {IsRow : Row → Type 0} (rows : List Row) → All IsRow rows → ((row : Row) → ¬ IsRow row) → rows ≡ []
none_in [] each none = refl
none_in (row ∷ rows) each none = absurd (none row (each 0 row (omega arith)))

-- There are rows exactly where the sources have a violation.
module _ (sources : List PlainSource) (findings : PlainFindings) (found : AreFindings sources findings) where
  -- a violation has a row
  has_row : HasViolation sources → 0 < violations findings
  has_row has = by has.0 has.1
    where
      by : (v : Violation) → IsViolation sources v → 0 < violations findings
      by (Cycle from to) is = omega (arith, (found.cycles.all (from, to) is).2)
      by (Conflict state class) is = omega (arith, (found.conflicts.all (state, class) is).2)
      by (Forbidden state from to) is = omega (arith, (found.forbidden.all (state, (from, to)) is).2)

  no_cycles : ¬ HasViolation sources → findings.cycles ≡ []
  no_cycles none = none_in findings.cycles found.cycles.each (λ row (is : IsCycleRow sources row). none (Cycle row.from row.to, is.cycle))

  no_conflicts : ¬ HasViolation sources → findings.conflicts ≡ []
  no_conflicts none = none_in findings.conflicts found.conflicts.each (λ row (is : IsConflictRow sources row). none (Conflict row.state row.class, is.conflict))

  no_forbidden : ¬ HasViolation sources → findings.forbidden ≡ []
  no_forbidden none = none_in findings.forbidden found.forbidden.each (λ row (is : IsForbiddenRow sources row). none (Forbidden row.state row.from row.to, is.forbidden))

-- the last line is `clean` exactly where there is none
pub says_clean : (sources : List PlainSource) (text : List ℕ) → IsReport sources text → SaysClean text ↔ (¬ HasViolation sources)
says_clean sources text is = (only, says)
  where
    top : List ℕ
    top = summary_line (totals sources) ++ refused_lines is.in_order

    rows : List ℕ
    rows = violation_lines is.in_order is.findings

    only : SaysClean text → ¬ HasViolation sources
    only clean has =
        not_clean (top ++ rows) (violations is.findings) (has_row sources is.findings is.found has) (clean.0, sym is.lines ∙ clean.1)

    says : ¬ HasViolation sources → SaysClean text
    says none = (ends.0, is.lines ∙ bare ∙ ap (λ t. t ++ codes "clean\n") ends.1 ∙ append_assoc ends.0 (codes "\n") (codes "clean\n"))
      where
        ends : EndsLine top
        ends = refused_lines_end (summary_line (totals sources)) is.in_order (summary_ends (totals sources))

        bare : report_text sources is.in_order is.findings ≡ top ++ codes "clean\n"
        bare = rw (no_cycles sources is.findings is.found none, no_conflicts sources is.findings is.found none, no_forbidden sources is.findings is.found none)
            (ap (λ t. t ++ codes "clean\n") (append-nil top))
