-- The order of the names of classes, as a comparison.
use Rattle.std.proofs.Common.{◌≡◌, ◌<◌, ◌∙◌, inl, inr, true, List, ℕ, Decides, Ordering, Less, Equal, Greater, is_eq, is_lt, nat_cmp, refl, sym, ap, subst, arith}
use Rattle.std.proofs.lemmas.Bool.{true≢false}
use Rattle.std.proofs.lemmas.Bool.Decides.{nat_tests}
use Rattle.std.proofs.lemmas.Cmp.{nat_cmp_total, nat_list_cmp_total, on_total, ranked, then_total, tied_itself}
use Rattle.std.proofs.lemmas.Map.Text.{is_eq-slice_cmp}
use Rattle.std.proofs.lemmas.Slice.Eq.{bytes_eq-Decides}
use Rattle.std.specs.Cmp.{IsTotalOrder}
use Rattle.std.specs.Cmp.Lexicographic.{slice_cmp}
use Rattle.std.specs.Ordering.{ordering_then}
use Rattle.ld_class.specs.Names.{PlainClass}
use Rattle.ld_union.specs.Findings.{IsBefore}

-- how a sort compares names: by their texts, and where these are equal by their subclasses
abbrev pub class_cmp : PlainClass → PlainClass → Ordering
class_cmp a b = ordering_then (slice_cmp nat_cmp a.name b.name) (nat_cmp a.sub b.sub)

pub class_cmp_total : IsTotalOrder class_cmp
class_cmp_total = then_total (on_total (λ a. a.name) nat_list_cmp_total) (on_total (λ a. a.sub) nat_cmp_total)

text_same : (a b : List ℕ) → slice_cmp nat_cmp a b ≡ Equal → a ≡ b
text_same a b is = (bytes_eq-Decides a b).0 (sym (is_eq-slice_cmp a b) ∙ ap is_eq is)

nat_less : (x y : ℕ) → x < y → nat_cmp x y ≡ Less
nat_less x y lower = grind (arith, nat_tests)

pub before_from_less : (a b : PlainClass) → class_cmp a b ≡ Less → IsBefore a b
before_from_less a b is = by (slice_cmp nat_cmp a.name b.name) refl is
  where
    by : (r : Ordering) → slice_cmp nat_cmp a.name b.name ≡ r → ordering_then r (nat_cmp a.sub b.sub) ≡ Less → IsBefore a b
    by Less first h = inl first
    by Equal first h = inr (text_same a.name b.name first, ranked a.sub b.sub Less (sym h))
    by Greater first h = absurd (true≢false (sym (ap is_lt h)))

pub less_from_before : (a b : PlainClass) → IsBefore a b → class_cmp a b ≡ Less
less_from_before a b (inl first) = ap (λ r. ordering_then r (nat_cmp a.sub b.sub)) first
less_from_before a b (inr second) =
    ap (λ r. ordering_then r (nat_cmp a.sub b.sub)) (subst (λ name. slice_cmp nat_cmp a.name name ≡ Equal) second.0 (tied_itself nat_list_cmp_total a.name))
    ∙ nat_less a.sub b.sub second.1

-- no name comes before itself
pub not_before_itself : (a : PlainClass) → ¬ IsBefore a a
not_before_itself a before = true≢false (sym (ap is_lt (less_from_before a a before)) ∙ ap is_lt (tied_itself class_cmp_total a))

-- of two names at most one comes before the other
pub not_before_both : (a b : PlainClass) → IsBefore a b → ¬ IsBefore b a
not_before_both a b ab ba = not_before_itself a (before_from_less a a (class_cmp_total.trans a b a (less_from_before a b ab) (less_from_before b a ba)))

-- names that compare as equal are the same
pub same_from_equal : (a b : PlainClass) → class_cmp a b ≡ Equal → a ≡ b
same_from_equal a b is = by (slice_cmp nat_cmp a.name b.name) refl is
  where
    by : (r : Ordering) → slice_cmp nat_cmp a.name b.name ≡ r → ordering_then r (nat_cmp a.sub b.sub) ≡ Equal → a ≡ b
    by Less first h = absurd (true≢false (sym (ap is_eq h)))
    by Equal first h = λ i. record { name = text_same a.name b.name first i; sub = ranked a.sub b.sub Equal (sym h) i }
    by Greater first h = absurd (true≢false (sym (ap is_eq h)))

pub class_cmp-Decides : (a b : PlainClass) → Decides (is_eq (class_cmp a b)) (a ≡ b)
class_cmp-Decides a b = (λ same. by (class_cmp a b) refl same, λ same. subst (λ c. is_eq (class_cmp a c) ≡ true) same (ap is_eq (tied_itself class_cmp_total a)))
  where
    by : (r : Ordering) → class_cmp a b ≡ r → is_eq r ≡ true → a ≡ b
    by Less is h = absurd (true≢false (sym h))
    by Equal is h = same_from_equal a b is
    by Greater is h = absurd (true≢false (sym h))
