-- One line of a report more.
use Rattle.std.proofs.Common.{◌≡◌, ◌∙◌, ◌+◌, ◌++◌, ◌≤◌, ℕ, Bool, true, false, cond, if◌then◌else◌, List, [], ◌∷◌, filter, map, refl, ap, arith}
use Rattle.std.specs.List.{concat, count_by}
use Rattle.std.proofs.lemmas.List.Sums.{sum_by-cons}
use Rattle.ld_trace.specs.Lines.{lines}
use Rattle.ld_baseline.specs.Said.{PlainSaid}
use Rattle.ld_baseline.specs.News.{count_staying, is_new, staying, stays}
use Rattle.ld_baseline.specs.Gone.{going, is_gone, with_lf}

module _ (has : PlainSaid → Bool) (report line after : List ℕ) (first : lines report ≡ line ∷ lines after) where
  pub staying-line : staying has report ≡ (if stays has line then line else []) ++ staying has after
  staying-line = ap (λ all. concat (filter (stays has) all)) first ∙ by (stays has line) (filter (stays has) (lines after))
    where
      by : (b : Bool) (others : List (List ℕ)) → concat (cond b (line ∷ others) others) ≡ (if b then line else []) ++ concat others
      by true others = refl
      by false others = refl

  pub count-line : count_staying has report ≡ cond {A = ℕ} (is_new has line) 1 0 + count_staying has after
  count-line = ap (count_by (is_new has)) first ∙ sum_by-cons (λ it. cond {A = ℕ} (is_new has it) 1 0) line (lines after)

pub one_at_most : (b : Bool) → cond {A = ℕ} b 1 0 ≤ 1
one_at_most true = omega arith
one_at_most false = omega arith

-- one line of a known text more
module _ (there : PlainSaid → Bool) (known line after : List ℕ) (first : lines known ≡ line ∷ lines after) where
  pub going-line : going there known ≡ (if is_gone there line then with_lf line else []) ++ going there after
  going-line = ap (λ all. concat (map with_lf (filter (is_gone there) all))) first ∙ by (is_gone there line) (filter (is_gone there) (lines after))
    where
      by : (b : Bool) (others : List (List ℕ)) → concat (map with_lf (cond b (line ∷ others) others)) ≡ (if b then with_lf line else []) ++ concat (map with_lf others)
      by true others = refl
      by false others = refl

  pub count_gone-line : count_by (is_gone there) (lines known) ≡ cond {A = ℕ} (is_gone there line) 1 0 + count_by (is_gone there) (lines after)
  count_gone-line = ap (count_by (is_gone there)) first ∙ sum_by-cons (λ it. cond {A = ℕ} (is_gone there it) 1 0) line (lines after)
