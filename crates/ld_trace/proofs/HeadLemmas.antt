-- A header in its plainest form: `trace` and a run with one blank between, and the end of a line.
use Rattle.std.proofs.Common.{◌≡◌, ◌∙◌, ℕ, Bool, true, false, List, [], ◌∷◌, ◌++◌, Some, refl, ap, sym, append_assoc, arith, codes}
use Rattle.std.specs.List.{onto_first, prefix_len}
use Rattle.ld_trace.specs.Lines.{fields, is_word, lines}
use Rattle.ld_trace.specs.Sources.{begins_trace, fields_of, is_header, is_other, label_of}
use Rattle.ld_trace.specs.Inner.Plain.{IsEnded, line_end}
use Rattle.ld_trace.specs.Inner.Splitting.{IsHead}
use Rattle.ld_trace.proofs.EndLemmas.{lines-end}
use Rattle.ld_trace.proofs.PlainLemmas.{IsRun, fields-end, fields-word, lines-onto, run-word, text-run}

-- the line, with a CR before its LF or without
abbrev pub ended_line : List ℕ → Bool → List ℕ
ended_line label cr = codes "trace " ++ (label ++ line_end cr)

-- and without
abbrev pub plain_line : List ℕ → List ℕ
plain_line label = ended_line label false

module _ (label : List ℕ) (run : IsRun label) where
  -- it is a line
  pub ended-line : (cr : Bool) (rest : List ℕ) → lines (codes "trace " ++ (label ++ (line_end cr ++ rest))) ≡ ended_line label cr ∷ lines rest
  ended-line cr rest =
      let own : lines (label ++ (line_end cr ++ rest)) ≡ (label ++ line_end cr) ∷ lines rest =
      lines-onto label (line_end cr ++ rest) (line_end cr) (lines rest) run.graphic (lines-end cr rest) in
      ap (λ o. onto_first 116 (onto_first 114 (onto_first 97 (onto_first 99 (onto_first 101 (onto_first 32 o)))))) own

  -- of two fields
  pub ended-fields : (cr : Bool) → fields_of (ended_line label cr) ≡ codes "trace" ∷ label ∷ []
  ended-fields cr =
      ap fields (text-run (codes "trace ") label run cr)
      ∙ fields-word (codes "trace") label (record { full = refl; graphic = refl })
      ∙ ap (λ o. codes "trace" ∷ o) (fields-end label run)

  -- so it is a header
  pub ended-is : (cr : Bool) → is_header (ended_line label cr) ≡ true
  ended-is cr = ap begins_trace (ended-fields cr)

  -- the same without a CR
  pub head-line : (rest : List ℕ) → lines (codes "trace " ++ (label ++ 10 ∷ rest)) ≡ plain_line label ∷ lines rest
  head-line rest = ended-line false rest

  pub head-is : is_header (plain_line label) ≡ true
  head-is = ended-is false

-- and its label is the run
pub ended-label : (label : List ℕ) → is_word label ≡ true → (cr : Bool) → label_of (fields_of (ended_line label cr)) ≡ Some label
ended-label label word cr = rw (ended-fields label (run-word label word) cr, word) refl

pub head-label : (label : List ℕ) → is_word label ≡ true → label_of (fields_of (plain_line label)) ≡ Some label
head-label label word = ended-label label word false

-- bytes that begin so
pub record BeginsPlain (bytes after name behind rest : List ℕ) : Type 0 where
  pub front : bytes ≡ codes "trace " ++ after
  pub goes : after ≡ name ++ behind
  pub ends : IsEnded behind rest
  pub word : is_word name ≡ true

module _ (bytes after name behind rest : List ℕ) (begins : BeginsPlain bytes after name behind rest) where
  whole : bytes ≡ codes "trace " ++ (name ++ (line_end begins.ends.cr ++ rest))
  whole = begins.front ∙ ap (λ o. codes "trace " ++ o) (begins.goes ∙ ap (λ o. name ++ o) begins.ends.whole)

  first : lines bytes ≡ ended_line name begins.ends.cr ∷ lines rest
  first = ap lines whole ∙ ended-line name (run-word name begins.word) begins.ends.cr rest

  pub head-plain : IsHead bytes (Some name) rest
  head-plain = record {
    line = ended_line name begins.ends.cr;
    first = first;
    whole = whole ∙ ap (λ o. codes "trace " ++ o) (sym (append_assoc name (line_end begins.ends.cr) rest));
    nonempty = omega arith;
    label = ended-label name begins.word begins.ends.cr;
  }

  pub head-opens : prefix_len is_other (lines bytes) ≡ 0
  head-opens = ap (prefix_len is_other) first ∙ rw (ended-is name (run-word name begins.word) begins.ends.cr) refl
