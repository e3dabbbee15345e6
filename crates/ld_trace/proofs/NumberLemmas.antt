-- The sources of a stream have their places as their numbers.
use Rattle.std.proofs.Common.{◌≡◌, ◌+◌, ◌<◌, ◌≤◌, ◌∷◌, [], ◌++◌, All, List, ℕ, zero, suc, Bool, true, false, Some, None, length, map, take, cond}
use Rattle.std.proofs.Common.{count_by, filter_map, get_or, refl, sym, ap, subst, ◌∙◌, arith, if◌then◌else◌, append_assoc, length-append}
use Rattle.std.proofs.lemmas.List.{get_or-map, length-map, take_at}
use Rattle.std.proofs.lemmas.List.Sums.{fold_push}
use Rattle.std.specs.List.{cons_option, enumerate_from}
use Rattle.ld_trace.specs.declared.source.Source.{Source}
use Rattle.ld_trace.specs.declared.source.TheConstants.{MOST_TRACES}
use Rattle.ld_trace.specs.Lines.{lines}
use Rattle.ld_trace.specs.Sources.{AreNumbered, Fits, PlainSource, headers_before, is_header, opened_at, plain, section_at, sources}

-- the sections that lines from place n on open
abbrev opened_from : List (List ℕ) → ℕ → List (List ℕ) → List PlainSource
opened_from all n rest = filter_map (λ p. opened_at all p.0 p.1) (enumerate_from n rest)

-- one more element counts as one, or not
count_by-push : {X : Type 0} (p : X → Bool) (xs : List X) (x : X) (b : Bool) → p x ≡ b → count_by p (xs ++ x ∷ []) ≡ count_by p xs + (if b then 1 else 0)
count_by-push p xs x b is = fold_push (λ a y. a + cond (p y) 1 0) 0 xs x ∙ ap (λ (c : Bool). count_by p xs + cond c 1 0) is

-- that the sections which lines from place n on open are numbered on from so many
abbrev AreFrom : List (List ℕ) → ℕ → List (List ℕ) → ℕ → Type 0
AreFrom all n rest count = (k : ℕ) (d : PlainSource) → k < length (opened_from all n rest) → (get_or (opened_from all n rest) k d).number ≡ count + k

-- one line before others
numbered_at : (all front : List (List ℕ)) (line : List ℕ) (rest : List (List ℕ)) → all ≡ front ++ line ∷ rest → AreFrom all (length front + 1) rest
    (count_by is_header (front ++ line ∷ [])) → AreFrom all (length front) (line ∷ rest) (count_by is_header front)
numbered_at all front line rest is more = by (is_header line) refl
  where
    by : (b : Bool) → is_header line ≡ b → (k : ℕ) (d : PlainSource) → k < length
        (cons_option (if b then Some (section_at all (length front)) else None) (opened_from all (length front + 1) rest)) →
        (get_or (cons_option (if b then Some (section_at all (length front)) else None) (opened_from all (length front + 1) rest)) k d).number ≡ count_by is_header front + k
    by true head zero d below =
        let here : headers_before all (length front) ≡ count_by is_header front = ap (λ xs. count_by is_header (take (length front) xs)) is ∙ ap
        (count_by is_header) (take_at front (line ∷ rest) (length front) refl) in
        omega (arith, here)
    by true head (suc k) d below = let others = more k d (omega arith) in omega (arith, others, count_by-push is_header front line true head)
    by false head k d below = let others = more k d below in omega (arith, others, count_by-push is_header front line false head)

-- sections are numbered on from the headers before them
numbered_from : (all front rest : List (List ℕ)) → all ≡ front ++ rest → AreFrom all (length front) rest (count_by is_header front)
numbered_from all front [] is = λ k d below. absurd (omega arith)
numbered_from all front (line ∷ rest) is =
    let next : length (front ++ line ∷ []) ≡ length front + 1 = omega (arith, length-append front (line ∷ [])) in
    numbered_at all front line rest is
    (subst (λ n. AreFrom all n rest (count_by is_header (front ++ line ∷ []))) next (numbered_from all (front ++ line ∷ []) rest (is ∙ sym (append_assoc front (line ∷ []) rest))))

pub numbered : (bytes : List ℕ) → AreNumbered (sources bytes)
numbered bytes k d below = let zeroth : 0 + k ≡ k = omega arith in numbered_from (lines bytes) [] (lines bytes) refl k d below ∙ zeroth

-- so there are no more of them than have a number that fits
pub few_that_fit : (found : List Source) → AreNumbered (map plain found) → All (λ source. Fits (plain source)) found → length found ≤ MOST_TRACES
few_that_fit [] numbers fit = omega arith
few_that_fit (source ∷ found) numbers fit =
    let last : length found < length (source ∷ found) = omega arith in
    let here = get_or-map plain (source ∷ found) (length found) source (plain source) last in
    let number = numbers (length found) (plain source) (omega (arith, length-map found plain)) in
    let small = (fit (length found) source last).number in
    omega (arith, small, number, ap (λ (s : PlainSource). s.number) here)
