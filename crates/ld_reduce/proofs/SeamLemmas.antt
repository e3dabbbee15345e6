-- Two streams, one behind the other, where the second begins with a header: the traces of both.
use Rattle.std.proofs.Common.{◌≡◌, ◌∙◌, ◌+◌, ◌<◌, ◌≤◌, ℕ, Bool, true, false, not, List, [], ◌∷◌, ◌++◌, cond, count_by, drop, filter_map, get_or, length, map, take, Option, Some, None, refl, ap, sym, subst, arith}
use Rattle.std.specs.Prelude.{if◌then◌else◌, unwrap_or}
use Rattle.std.proofs.Math.Seq.{drop-append-add, take-append-add}
use Rattle.std.proofs.lemmas.List.{drop-append-le, get_or_append_left, get_or-append-add, length-drop, take-append-le}
use Rattle.std.proofs.lemmas.List.Elements.{filter_map-append}
use Rattle.std.proofs.lemmas.List.Sums.{sum_by-append, take_while-cons}
use Rattle.std.specs.List.{concat, cons_option, enumerate_from, prefix_len, take_while}
use Rattle.ld_trace.specs.Lines.{lines}
use Rattle.ld_trace.specs.Sources.{PlainSource, fields_of, headers_before, is_header, is_other, label_of, opened_at, section_at, sections, sources}
use Rattle.ld_trace.proofs.SectionLemmas.{header-first}
use Rattle.ld_trace.proofs.SplitLemmas.{drop-next}
use Rattle.ld_rules.proofs.PlaceLemmas.{filter_map_along}
use Rattle.ld_reduce.specs.Left.{further}
use Rattle.ld_reduce.proofs.LineLemmas.{IsEnded, lines-behind}

count-append : {X : Type 0} (p : X → Bool) (xs ys : List X) → count_by p (xs ++ ys) ≡ count_by p ys + count_by p xs
count-append p xs ys = omega (arith, sum_by-append (λ x. cond (p x) 1 0) xs ys)

numbered-append : {X : Type 0} (n : ℕ) (xs ys : List X) → enumerate_from n (xs ++ ys) ≡ enumerate_from n xs ++ enumerate_from (n + length xs) ys
numbered-append n [] ys = let same : n ≡ n + 0 = omega arith in ap (λ m. enumerate_from m ys) same
numbered-append n (x ∷ xs) ys =
    let same : n + 1 + length xs ≡ n + length (x ∷ xs) = omega arith in
    ap (λ o. (n, x) ∷ o) (numbered-append (n + 1) xs ys ∙ ap (λ m. enumerate_from (n + 1) xs ++ enumerate_from m ys) same)

module _ (xs ys : List (List ℕ)) (first : prefix_len is_other ys ≡ 0) where
  -- the lines of a trace end where the second stream begins
  own-none : (zs : List (List ℕ)) → prefix_len is_other zs ≡ 0 → take_while is_other zs ≡ []
  own-none [] none = refl
  own-none (z ∷ zs) none = let header = header-first z zs none in take_while-cons is_other z zs ∙ ap (λ test. cond (not test) (z ∷ take_while is_other zs) []) header

  own-lines : (zs : List (List ℕ)) → take_while is_other (zs ++ ys) ≡ take_while is_other zs
  own-lines [] = own-none ys first
  own-lines (z ∷ zs) =
      take_while-cons is_other z (zs ++ ys)
      ∙ ap (λ o. cond (is_other z) (z ∷ o) []) (own-lines zs)
      ∙ sym (take_while-cons is_other z zs)

  section-front : (n : ℕ) → n < length xs → section_at (xs ++ ys) n ≡ section_at xs n
  section-front n low =
      let front : take n (xs ++ ys) ≡ take n xs = take-append-le n xs ys (omega (arith, low)) in
      let line : get_or (xs ++ ys) n [] ≡ get_or xs n [] = get_or_append_left xs ys [] n low in
      let left : take_while is_other (drop (n + 1) (xs ++ ys)) ≡ take_while is_other (drop (n + 1) xs) =
      ap (take_while is_other) (drop-append-le (n + 1) xs ys (omega (arith, low))) ∙ own-lines (drop (n + 1) xs) in
      λ i. record { number = count_by is_header (front i); label = unwrap_or (label_of (fields_of (line i))) []; first_line = n + 2; bytes = concat (left i) }

  section-back : (n : ℕ) → section_at (xs ++ ys) (length xs + n) ≡ further (count_by is_header xs) (length xs) (section_at ys n)
  section-back n =
      let count : count_by is_header (take (length xs + n) (xs ++ ys)) ≡ headers_before ys n + count_by is_header xs =
      ap (count_by is_header) (take-append-add xs ys n) ∙ count-append is_header xs (take n ys) in
      let line : get_or (xs ++ ys) (length xs + n) [] ≡ get_or ys n [] = get_or-append-add xs ys n [] in
      let number : length xs + n + 2 ≡ n + 2 + length xs = omega arith in
      let next : length xs + n + 1 ≡ length xs + (n + 1) = omega arith in
      let left : drop (length xs + n + 1) (xs ++ ys) ≡ drop (n + 1) ys = ap (λ k. drop k (xs ++ ys)) next ∙ drop-append-add xs ys (n + 1) in
      λ i. record { number = count i; label = unwrap_or (label_of (fields_of (line i))) []; first_line = number i; bytes = concat (take_while is_other (left i)) }

  abbrev back : PlainSource → PlainSource
  back = further (count_by is_header xs) (length xs)

  sections-front : filter_map (λ p. opened_at (xs ++ ys) p.0 p.1) (enumerate_from 0 xs) ≡ sections xs
  sections-front =
      filter_map_along (λ p. opened_at (xs ++ ys) p.0 p.1) (λ p. opened_at xs p.0 p.1) 0 xs
      (λ i x low high. ap (λ s. if is_header x then Some s else None) (section-front i (omega (arith, high))))

  sections-back : (n : ℕ) (zs : List (List ℕ))
      → filter_map (λ p. opened_at (xs ++ ys) p.0 p.1) (enumerate_from (length xs + n) zs) ≡ map back (filter_map (λ p. opened_at ys p.0 p.1) (enumerate_from n zs))
  sections-back n [] = refl
  sections-back n (z ∷ zs) =
      let next : length xs + n + 1 ≡ length xs + (n + 1) = omega arith in
      by (is_header z) (ap (λ m. filter_map (λ p. opened_at (xs ++ ys) p.0 p.1) (enumerate_from m zs)) next ∙ sections-back (n + 1) zs)
    where
      by : (test : Bool) → filter_map (λ p. opened_at (xs ++ ys) p.0 p.1) (enumerate_from (length xs + n + 1) zs) ≡ map back (filter_map (λ p. opened_at ys p.0 p.1) (enumerate_from (n + 1) zs))
          → cons_option (if test then Some (section_at (xs ++ ys) (length xs + n)) else None) (filter_map (λ p. opened_at (xs ++ ys) p.0 p.1) (enumerate_from (length xs + n + 1) zs))
          ≡ map back (cons_option (if test then Some (section_at ys n) else None) (filter_map (λ p. opened_at ys p.0 p.1) (enumerate_from (n + 1) zs)))
      by true rest = λ i. section-back n i ∷ rest i
      by false rest = rest

  pub sections-append : sections (xs ++ ys) ≡ sections xs ++ map back (sections ys)
  sections-append =
      let start : 0 + length xs ≡ length xs + 0 = omega arith in
      ap (filter_map (λ p. opened_at (xs ++ ys) p.0 p.1)) (numbered-append 0 xs ys)
      ∙ filter_map-append (λ p. opened_at (xs ++ ys) p.0 p.1) (enumerate_from 0 xs) (enumerate_from (0 + length xs) ys)
      ∙ (λ i. sections-front i ++ filter_map (λ p. opened_at (xs ++ ys) p.0 p.1) (enumerate_from (start i) ys))
      ∙ ap (λ o. sections xs ++ o) (sections-back 0 ys)

-- as many traces as headers
opened-count : (all : List (List ℕ)) (n : ℕ) (zs : List (List ℕ)) → length (filter_map (λ p. opened_at all p.0 p.1) (enumerate_from n zs)) ≡ count_by is_header zs
opened-count all n [] = refl
opened-count all n (z ∷ zs) =
    let more : count_by is_header (z ∷ zs) ≡ cond (is_header z) 1 0 + count_by is_header zs = omega (arith, sum_by-append (λ x. cond (is_header x) 1 0) (z ∷ []) zs) in
    by (is_header z) (opened-count all (n + 1) zs) ∙ sym more
  where
    by : (test : Bool) → length (filter_map (λ p. opened_at all p.0 p.1) (enumerate_from (n + 1) zs)) ≡ count_by is_header zs
        → length (cons_option (if test then Some (section_at all n) else None) (filter_map (λ p. opened_at all p.0 p.1) (enumerate_from (n + 1) zs)))
        ≡ cond test 1 0 + count_by is_header zs
    by true rest = omega (arith, rest)
    by false rest = omega (arith, rest)

-- the traces of two streams, the first of which has an LF at its end
pub sources-append : (front more : List ℕ) → IsEnded front → prefix_len is_other (lines more) ≡ 0
    → sources (front ++ more) ≡ sources front ++ map (further (length (sources front)) (length (lines front))) (sources more)
sources-append front more end first =
    let own = lines front in
    ap sections (lines-behind front more end)
    ∙ sections-append own (lines more) first
    ∙ ap (λ n. sections own ++ map (further n (length own)) (sources more)) (sym (opened-count own 0 own))
