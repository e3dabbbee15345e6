-- What a trace shows depends on the texts of its lines alone: from where its lines are counted only moves the lines at which it stands.
use Rattle.std.proofs.Common.{◌≡◌, ◌∙◌, ◌+◌, ◌-◌, ◌++◌, ℕ, Bool, true, false, cond, List, [], ◌∷◌, map, filter, filter_map, flat_map, fold, take, length, min, Option, Some, None, Result, Ok, Err, option_map, refl, ap, sym, arith}
use Rattle.std.proofs.lemmas.List.{map-append, take-map}
use Rattle.std.specs.Prelude.{slice_get}
use Rattle.std.specs.List.{cons_option, enumerate_from, reduce}
use Rattle.ld_trace.specs.declared.event.LineFault.{LineFault}
use Rattle.ld_trace.specs.Lines.{lines, text_of}
use Rattle.ld_trace.specs.Sources.{PlainSource}
use Rattle.ld_trace.specs.Events.{PlainEvent, Position, Said, position_of, positions, said_by}
use Rattle.ld_rules.specs.declared.fault.TraceFault.{TraceFault}
use Rattle.ld_rules.specs.declared.outcome.Outcome.{Outcome}
use Rattle.ld_rules.specs.declared.outcome.Outcome.TheVariants.{Read, Refused}
use Rattle.ld_rules.specs.Outcome.{FaultyLine, event_said, events, faulty_lines, outcome, outcome_by, said_fault}
use Rattle.ld_rules.specs.Dependency.{Seen, least_line, seen, seen_at}
use Rattle.ld_rules.specs.Union.{if_read}
use Rattle.ld_book.specs.Totals.{is_refused}

-- the positions of lines with these texts, counted from here
abbrev positions_from : ℕ → List (List ℕ) → List Position
positions_from n texts = filter_map (λ p. position_of p.0 (said_by p.1)) (enumerate_from n texts)

positions-texts : (n : ℕ) (all : List (List ℕ)) → filter_map (λ p. position_of p.0 (said_by (text_of p.1))) (enumerate_from n all) ≡ positions_from n (map text_of all)
positions-texts n [] = refl
positions-texts n (line ∷ all) = ap (cons_option (position_of n (said_by (text_of line)))) (positions-texts (n + 1) all)

-- so many lines further
abbrev moved : ℕ → Position → Position
moved k p = record { line = p.line + k; says = p.says }

positions-moved : (n k : ℕ) (texts : List (List ℕ)) → positions_from (n + k) texts ≡ map (moved k) (positions_from n texts)
positions-moved n k [] = refl
positions-moved n k (text ∷ texts) =
    let next : n + k + 1 ≡ n + 1 + k = omega arith in
    ap (λ m. cons_option (position_of (n + k) (said_by text)) (positions_from m texts)) next
    ∙ ap (cons_option (position_of (n + k) (said_by text))) (positions-moved (n + 1) k texts)
    ∙ by (said_by text)
  where
    by : (said : Said) → cons_option (position_of (n + k) said) (map (moved k) (positions_from (n + 1) texts)) ≡ map (moved k) (cons_option (position_of n said) (positions_from (n + 1) texts))
    by (Ok None) = refl
    by (Ok (Some event)) = refl
    by (Err fault) = refl

module _ (k : ℕ) where
  events-moved : (all : List Position) → events (map (moved k) all) ≡ events all
  events-moved [] = refl
  events-moved (p ∷ all) = ap (cons_option (event_said p.says)) (events-moved all)

  past-moved : (all : List Position) (n : ℕ) → events (take n (map (moved k) all)) ≡ events (take n all)
  past-moved all n = ap events (take-map (moved k) n all) ∙ events-moved (take n all)

  -- faults

  abbrev fault_moved : FaultyLine → FaultyLine
  fault_moved f = record { line = f.line + k; fault = f.fault }

  abbrev faulty_from : (ℕ → List PlainEvent) → ℕ → List Position → List FaultyLine
  faulty_from past n all = filter_map (λ p. option_map (λ fault. record { line = p.1.line; fault = fault }) (said_fault (past p.0) p.1.says)) (enumerate_from n all)

  faulty-from : (past past' : ℕ → List PlainEvent) → ((n : ℕ) → past' n ≡ past n) → (n : ℕ) (all : List Position)
      → faulty_from past' n (map (moved k) all) ≡ map fault_moved (faulty_from past n all)
  faulty-from past past' same n [] = refl
  faulty-from past past' same n (p ∷ all) =
      (λ i. cons_option (option_map (λ fault. record { line = p.line + k; fault = fault }) (said_fault (same n i) p.says)) (faulty-from past past' same (n + 1) all i))
      ∙ by (said_fault (past n) p.says)
    where
      by : (one : Option TraceFault)
          → cons_option (option_map (λ fault. record { line = p.line + k; fault = fault }) one) (map fault_moved (faulty_from past (n + 1) all))
          ≡ map fault_moved (cons_option (option_map (λ fault. record { line = p.line; fault = fault }) one) (faulty_from past (n + 1) all))
      by None = refl
      by (Some fault) = refl

  faulty-moved : (all : List Position) → faulty_lines (map (moved k) all) ≡ map fault_moved (faulty_lines all)
  faulty-moved all = faulty-from (λ n. events (take n all)) (λ n. events (take n (map (moved k) all))) (past-moved all) 0 all

  -- it is read where it was
  read-moved : {A : Type 0} (count count' : ℕ) (faults : List FaultyLine) (shown : List A)
      → if_read (outcome_by count' (slice_get (map fault_moved faults) 0)) shown ≡ if_read (outcome_by count (slice_get faults 0)) shown
  read-moved count count' [] shown = refl
  read-moved count count' (f ∷ faults) shown = refl

  refused-moved : (count count' : ℕ) (faults : List FaultyLine)
      → is_refused (outcome_by count' (slice_get (map fault_moved faults) 0)) ≡ is_refused (outcome_by count (slice_get faults 0))
  refused-moved count count' [] = refl
  refused-moved count count' (f ∷ faults) = refl

  -- what is seen

  abbrev seen_moved : {A : Type 0} → Seen A → Seen A
  seen_moved s = record { what = s.what; line = s.line + k }

  module _ {A : Type 0} (at : List PlainEvent → PlainEvent → List A) where
    at_moved : (past : List PlainEvent) (line : ℕ) (says : Result PlainEvent LineFault) → seen_at at past (line + k) says ≡ map seen_moved (seen_at at past line says)
    at_moved past line (Ok event) = at_one (at past event)
      where
        at_one : (whats : List A) → map (λ what. record { what = what; line = line + k }) whats ≡ map seen_moved (map (λ what. record { what = what; line = line }) whats)
        at_one [] = refl
        at_one (what ∷ whats) = ap (λ o. record { what = what; line = line + k } ∷ o) (at_one whats)
    at_moved past line (Err fault) = refl

    abbrev seen_from : (ℕ → List PlainEvent) → ℕ → List Position → List (Seen A)
    seen_from past n all = flat_map (λ p. seen_at at (past p.0) p.1.line p.1.says) (enumerate_from n all)

    seen-from : (past past' : ℕ → List PlainEvent) → ((n : ℕ) → past' n ≡ past n) → (n : ℕ) (all : List Position) → seen_from past' n (map (moved k) all) ≡ map seen_moved (seen_from past n all)
    seen-from past past' same n [] = refl
    seen-from past past' same n (p ∷ all) =
        (λ i. seen_at at (same n i) (p.line + k) p.says ++ seen-from past past' same (n + 1) all i)
        ∙ ap (λ o. o ++ map seen_moved (seen_from past (n + 1) all)) (at_moved (past n) p.line p.says)
        ∙ sym (map-append seen_moved (seen_at at (past n) p.line p.says) (seen_from past (n + 1) all))

    pub seen-moved : (all : List Position) → seen at (map (moved k) all) ≡ map seen_moved (seen at all)
    seen-moved all = seen-from (λ n. events (take n all)) (λ n. events (take n (map (moved k) all))) (past-moved all) 0 all

  -- the least line

  min-moved : (a b : ℕ) → min (a + k) (b + k) ≡ min a b + k
  min-moved a b = omega arith

  fold-moved : (first : ℕ) (others : List ℕ) → fold min (first + k) (map (λ l. l + k) others) ≡ fold min first others + k
  fold-moved first [] = refl
  fold-moved first (l ∷ others) = ap (λ m. fold min m (map (λ l. l + k) others)) (min-moved first l) ∙ fold-moved (min first l) others

  reduce-moved : (all : List ℕ) → reduce min (map (λ l. l + k) all) ≡ option_map (λ l. l + k) (reduce min all)
  reduce-moved [] = refl
  reduce-moved (l ∷ all) = ap Some (fold-moved l all)

  module _ {A : Type 0} (same : A → A → Bool) (what : A) where
    lines-moved : (all : List (Seen A)) → map (λ s. s.line) (filter (λ s. same what s.what) (map seen_moved all)) ≡ map (λ l. l + k) (map (λ s. s.line) (filter (λ s. same what s.what) all))
    lines-moved [] = refl
    lines-moved (s ∷ all) = by (same what s.what) (lines-moved all)
      where
        by : (test : Bool) → map (λ s. s.line) (filter (λ s. same what s.what) (map seen_moved all)) ≡ map (λ l. l + k) (map (λ s. s.line) (filter (λ s. same what s.what) all))
            → map (λ s. s.line) (cond test (seen_moved s ∷ filter (λ s. same what s.what) (map seen_moved all)) (filter (λ s. same what s.what) (map seen_moved all)))
            ≡ map (λ l. l + k) (map (λ s. s.line) (cond test (s ∷ filter (λ s. same what s.what) all) (filter (λ s. same what s.what) all)))
        by true rest = ap (λ o. (s.line + k) ∷ o) rest
        by false rest = rest

    pub least-moved : (all : List (Seen A)) → least_line same (map seen_moved all) what ≡ option_map (λ l. l + k) (least_line same all what)
    least-moved all = ap (reduce min) (lines-moved all) ∙ reduce-moved (map (λ s. s.line) (filter (λ s. same what s.what) all))

if_read-map : {A B : Type 0} (f : A → B) (o : Outcome) (all : List A) → if_read o (map f all) ≡ map f (if_read o all)
if_read-map f (Read count) all = refl
if_read-map f (Refused line fault) all = refl

back : (k : ℕ) (o : Option ℕ) → option_map (λ l. l - k) (option_map (λ l. l + k) o) ≡ o
back k None = refl
back k (Some l) = let same : l + k - k ≡ l = omega arith in ap Some same

-- the positions of a source, by the texts of its lines
at_texts : (source : PlainSource) → positions source ≡ map (moved source.first_line) (positions_from 0 (map text_of (lines source.bytes)))
at_texts source =
    let k = source.first_line in
    let texts = map text_of (lines source.bytes) in
    let start : k ≡ 0 + k = omega arith in
    positions-texts k (lines source.bytes) ∙ ap (λ n. positions_from n texts) start ∙ positions-moved 0 k texts

refused_by_texts : (source : PlainSource) → is_refused (outcome source) ≡ is_refused (outcome_by 0 (slice_get (faulty_lines (positions_from 0 (map text_of (lines source.bytes)))) 0))
refused_by_texts source =
    let k = source.first_line in
    let base = positions_from 0 (map text_of (lines source.bytes)) in
    ap (λ all. is_refused (outcome_by (length all) (slice_get (faulty_lines all) 0))) (at_texts source)
    ∙ ap (λ faults. is_refused (outcome_by (length (map (moved k) base)) (slice_get faults 0))) (faulty-moved k base)
    ∙ refused-moved k 0 (length (map (moved k) base)) (faulty_lines base)

-- sources whose lines have the same texts are refused both, or both read
pub refused-same : (s t : PlainSource) → map text_of (lines s.bytes) ≡ map text_of (lines t.bytes) → is_refused (outcome s) ≡ is_refused (outcome t)
refused-same s t texts =
    refused_by_texts s
    ∙ ap (λ o. is_refused (outcome_by 0 (slice_get (faulty_lines (positions_from 0 o)) 0))) texts
    ∙ sym (refused_by_texts t)

module _ {A : Type 0} (same : A → A → Bool) (at : List PlainEvent → PlainEvent → List A) where
  -- what a source shows by such a rule
  abbrev pub shown_by : PlainSource → List (Seen A)
  shown_by source = if_read (outcome source) (seen at (positions source))

  -- at which of its lines, from 0
  abbrev pub line_within : A → PlainSource → Option ℕ
  line_within what source = option_map (λ line. line - source.first_line) (least_line same (shown_by source) what)

  -- by the texts of its lines
  abbrev by_texts : List (List ℕ) → List (Seen A)
  by_texts texts = let base = positions_from 0 texts in if_read (outcome_by 0 (slice_get (faulty_lines base) 0)) (seen at base)

  within_by_texts : (what : A) (source : PlainSource) → line_within what source ≡ least_line same (by_texts (map text_of (lines source.bytes))) what
  within_by_texts what source =
      let k = source.first_line in
      let texts = map text_of (lines source.bytes) in
      let base = positions_from 0 texts in
      let at_base = at_texts source in
      let shown : shown_by source ≡ map (seen_moved k) (by_texts texts) =
      ap (λ all. if_read (outcome_by (length all) (slice_get (faulty_lines all) 0)) (seen at all)) at_base
      ∙ ap (λ faults. if_read (outcome_by (length (map (moved k) base)) (slice_get faults 0)) (seen at (map (moved k) base))) (faulty-moved k base)
      ∙ read-moved k 0 (length (map (moved k) base)) (faulty_lines base) (seen at (map (moved k) base))
      ∙ ap (if_read (outcome_by 0 (slice_get (faulty_lines base) 0))) (seen-moved k at base)
      ∙ if_read-map (seen_moved k) (outcome_by 0 (slice_get (faulty_lines base) 0)) (seen at base) in
      ap (λ all. option_map (λ l. l - k) (least_line same all what)) shown
      ∙ ap (option_map (λ l. l - k)) (least-moved k same what (by_texts texts))
      ∙ back k (least_line same (by_texts texts) what)

  -- so sources whose lines have the same texts show it at the same of their lines
  pub within-same : (what : A) (s t : PlainSource) → map text_of (lines s.bytes) ≡ map text_of (lines t.bytes) → line_within what s ≡ line_within what t
  within-same what s t texts = within_by_texts what s ∙ ap (λ o. least_line same (by_texts o) what) texts ∙ sym (within_by_texts what t)
