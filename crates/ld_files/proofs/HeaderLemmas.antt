-- A stream with a header has a trace.
use Rattle.std.proofs.Common.{◌≡◌, ◌<◌, ◌∙◌, ◌+◌, ℕ, Bool, true, false, not, List, [], ◌∷◌, length, filter_map, refl, ap, sym, suc, arith}
use Rattle.std.proofs.lemmas.Bool.{ne_eqb}
use Rattle.std.specs.Prelude.{◌==◌, ◌||◌}
use Rattle.std.specs.Char.{is_ascii_graphic}
use Rattle.std.specs.List.{enumerate_from, list_all, list_any}
use Rattle.ld_trace.specs.Lines.{lines}
use Rattle.ld_trace.specs.Sources.{is_header, opened_at}
use Rattle.ld_trace.proofs.PlainLemmas.{IsRun}
use Rattle.ld_files.specs.Streams.{has_trace}

-- bytes of words, of which there is one at least, are a run
pub run-graphic : (bytes : List ℕ) → 0 < length bytes → list_all is_ascii_graphic bytes ≡ true → IsRun bytes
run-graphic [] some graphic = absurd (omega (arith, some))
run-graphic (b ∷ bytes) some graphic = record { full = refl; graphic = graphic }

-- lines with a header have a section
section-opened : (all xs : List (List ℕ)) (i : ℕ) → list_any is_header xs ≡ true → not (length (filter_map (λ p. opened_at all p.0 p.1) (enumerate_from i xs)) == 0) ≡ true
section-opened all [] i is = is
section-opened all (x ∷ xs) i is = by (is_header x) refl (section-opened all xs (i + 1))
  where
    others : Bool
    others = not (length (filter_map (λ p. opened_at all p.0 p.1) (enumerate_from (i + 1) xs)) == 0)

    by : (test : Bool) → is_header x ≡ test → (list_any is_header xs ≡ true → others ≡ true)
        → not (length (filter_map (λ p. opened_at all p.0 p.1) (enumerate_from i (x ∷ xs))) == 0) ≡ true
    by true header more = rw header (ap not (ne_eqb (suc _) 0 (λ same. omega (arith, same))))
    by false other more = rw other (more (sym (ap (λ test. test || list_any is_header xs) other) ∙ is))

-- so has a stream
pub trace-there : (bytes : List ℕ) → list_any is_header (lines bytes) ≡ true → has_trace bytes ≡ true
trace-there bytes is = section-opened (lines bytes) (lines bytes) 0 is

-- a header at the front is among the lines
pub header-here : (all : List (List ℕ)) (line : List ℕ) (others : List (List ℕ)) → all ≡ line ∷ others → is_header line ≡ true → list_any is_header all ≡ true
header-here all line others is header = ap (list_any is_header) is ∙ ap (λ test. test || list_any is_header others) header
