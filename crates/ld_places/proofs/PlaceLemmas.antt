-- Where a line of some files stands, by how many lines stand before each.
use Rattle.std.proofs.Common.{◌≡◌, ◌<◌, ◌≤◌, ◌+◌, ◌⊎◌, inl, inr, ◌∙◌, ◌∷◌, [], ℕ, List, Bool, true, false, length, take, get_or, sym, ap, subst, arith, nat_lt}
use Rattle.std.proofs.lemmas.Bool.{cases_lt, cases_order}
use Rattle.std.proofs.lemmas.Bool.Decides.{nat_tests}
use Rattle.std.proofs.lemmas.List.{get_or-map, length-map, take-take}
use Rattle.std.proofs.lemmas.List.Sums.{sum_by-take-le, sum_by_more}
use Rattle.std.specs.List.Sorted.{IsPartitionPoint, IsPartitionedBy}
use Rattle.ld_places.specs.declared.places.Part.{Part}
use Rattle.ld_places.specs.Places.{ArePlaces, IsLineOf, IsPlace, PlainFile, PlainPlace, file_of, files_of, line_sum, no_file}

-- a part of a list that has one
first_of : (parts : List Part) (k : ℕ) → k < length parts → Part
first_of [] k within = absurd (omega (arith, within))
first_of (part ∷ parts) k within = part

module _ (files : List PlainFile) where
  -- a later file stands behind as many lines at least
  pub line_sum-rises : (i j : ℕ) → i ≤ j → line_sum (take i files) ≤ line_sum (take j files)
  line_sum-rises i j later =
      subst (λ front. line_sum front ≤ line_sum (take j files)) (take-take i j files later) (sum_by-take-le (λ file. file.lines) (take j files) i)

  -- and behind those of an earlier one
  line_sum-behind : (i j : ℕ) → i < j → i < length files → line_sum (take i files) + (get_or files i no_file).lines ≤ line_sum (take j files)
  line_sum-behind i j later within = omega (arith, sum_by_more (λ file. file.lines) files i no_file within, line_sum-rises (i + 1) j (omega (arith, later)))

module _ (parts : List Part) (lines : ℕ) (are : ArePlaces parts lines) (line : ℕ) where
  abbrev files : List PlainFile
  files = files_of parts

  abbrev is_before : Part → Bool
  is_before part = nat_lt part.before line

  -- those before the line come first
  pub parts-partitioned : IsPartitionedBy is_before parts
  parts-partitioned i j d later within low =
      let here : (get_or parts i d).before ≡ line_sum (take i files) = are.before i d (omega (arith, later, within)) in
      let there : (get_or parts j d).before ≡ line_sum (take j files) = are.before j d within in
      let rises = line_sum-rises files i j later in
      grind (arith, nat_tests, here, there, rises, low)

  module _ (reached : ℕ) (parted : IsPartitionPoint (λ part. is_before part ≡ true) (λ part. is_before part ≡ false) parts reached) where
    -- a file that has the line is one of those
    line-reached : (at own : ℕ) → IsLineOf files line at own → at < reached
    line-reached at own is = by (cases_lt at reached)
      where
        by : (at < reached) ⊎ (reached ≤ at) → at < reached
        by (inl low) = low
        by (inr past) =
            let within : at < length parts = subst (λ n. at < n) (length-map parts file_of) is.within in
            let some : Part = first_of parts at within in
            let before : (get_or parts at some).before ≡ line_sum (take at files) = are.before at some within in
            let high = parted.1 at some past within in
            absurd (grind (arith, nat_tests, before, high, is.first, is.behind))

    pub line-nowhere : reached ≡ 0 → (place : PlainPlace) → ¬ IsPlace files line place
    line-nowhere none place is = let at = line-reached is.0 place.line is.1.0 in omega (arith, none, at)

    -- the last of those is the only one that can have it
    pub line-past : (k : ℕ) (d : Part) → k + 1 ≡ reached → k < length parts → line_sum (take k files) + (get_or parts k d).lines < line → (place : PlainPlace) → ¬ IsPlace files line place
    line-past k d next within past place is = by (cases_order is.0 k)
      where
        low : is.0 < reached
        low = line-reached is.0 place.line is.1.0

        lines_at : (get_or files k no_file).lines ≡ (get_or parts k d).lines
        lines_at = ap (λ (file : PlainFile). file.lines) (get_or-map file_of parts k d no_file within)

        by : (is.0 ≡ k) ⊎ ((is.0 < k) ⊎ (k < is.0)) → ⊥
        by (inl same) =
            let last : place.line ≤ (get_or files k no_file).lines = subst (λ at. place.line ≤ (get_or files at no_file).lines) same is.1.0.last in
            let behind : line ≡ line_sum (take k files) + place.line = subst (λ at. line ≡ line_sum (take at files) + place.line) same is.1.0.behind in
            omega (arith, last, behind, lines_at, past)
        by (inr (inl lower)) = omega (arith, line_sum-behind files is.0 k lower is.1.0.within, is.1.0.last, is.1.0.behind, past)
        by (inr (inr higher)) = omega (arith, low, next, higher)

    pub line-behind : (k : ℕ) (d : Part) → k + 1 ≡ reached → (get_or parts k d).before < line
    line-behind k d next = let low = parted.0 k d (omega arith) (omega (arith, next)) in grind (arith, nat_tests, low)

    -- and has it, where it has as many lines
    pub line-there : (k : ℕ) (d : Part) (own : ℕ) → k + 1 ≡ reached → k < length parts → line ≡ (get_or parts k d).before + own → own ≤ (get_or parts k d).lines → IsLineOf files line k own
    line-there k d own next within behind few = record {
      within = subst (λ n. k < n) (sym (length-map parts file_of)) within;
      first =
          let low = parted.0 k d (omega arith) (omega (arith, next)) in
          grind (arith, nat_tests, low, behind);
      last = subst (λ n. own ≤ n) (sym (ap (λ (file : PlainFile). file.lines) (get_or-map file_of parts k d no_file within))) few;
      behind = behind ∙ ap (λ n. n + own) (are.before k d within);
    }
