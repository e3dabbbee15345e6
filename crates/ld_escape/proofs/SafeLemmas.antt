-- What is written may stand there, and marks stand for marked bytes alone.
use Rattle.std.proofs.Common.{◌≡◌, ◌∙◌, ◌<◌, ◌+◌, ◌&&◌, ◌==◌, ℕ, zero, suc, Bool, true, false, cond, All, List, [], ◌∷◌, flat_map, count_by, refl, sym, ap, arith}
use Rattle.std.specs.List.{AllPass, list_all}
use Rattle.std.proofs.lemmas.List.Elements.{All-append, All-head, All-nil, All-tail}
use Rattle.std.proofs.lemmas.List.Sums.{AllPass-from_list_all, sum_by-append, sum_by-cons}
use Rattle.std.proofs.lemmas.Bool.Decides.{nat_tests}
use Rattle.ld_escape.specs.declared.form.Form.{Form}
use Rattle.ld_escape.specs.declared.form.Form.TheVariants.{Markup, Json, Message, Property, Tap, Uri, Class, Task}
use Rattle.ld_escape.specs.Forms.{is_marked}
use Rattle.ld_escape.specs.Written.{is_lead, may_stand, piece}

-- each number below one passes a test
abbrev every : (ℕ → Bool) → ℕ → Bool
every p zero = true
every p (suc n) = p n && every p n

both : (a b : Bool) → (a && b) ≡ true → (a ≡ true) × (b ≡ true)
both true true e = (refl, refl)
both true false e = cc
both false b e = cc

one_of : (p : ℕ → Bool) (n k : ℕ) → every p n ≡ true → k < n → p k ≡ true
one_of p zero k e h = absurd (omega arith)
one_of p (suc n) k e h = elim (k == n) as (λ same. (k == n) ≡ same → p k ≡ true) [
  | true ↦ λ same. let at : k ≡ n = grind (arith, nat_tests) in ap p at ∙ (both _ _ e).0
  | false ↦ λ same. one_of p n k (both _ _ e).1 (grind (arith, nat_tests))
] refl

abbrev is_safe : Form → Bool → ℕ → Bool
is_safe form shown b = list_all (may_stand form) (piece form shown b)

abbrev is_counted : Form → Bool → ℕ → Bool
is_counted form shown b = count_by (is_lead form) (piece form shown b) == cond {A = ℕ} (is_marked form shown b) 1 0

all_safe : (form : Form) (shown : Bool) → every (is_safe form shown) 256 ≡ true
all_safe Markup true = refl
all_safe Markup false = refl
all_safe Json true = refl
all_safe Json false = refl
all_safe Message true = refl
all_safe Message false = refl
all_safe Property true = refl
all_safe Property false = refl
all_safe Tap true = refl
all_safe Tap false = refl
all_safe Uri true = refl
all_safe Uri false = refl
all_safe Class true = refl
all_safe Class false = refl
all_safe Task true = refl
all_safe Task false = refl

all_counted : (form : Form) (shown : Bool) → every (is_counted form shown) 256 ≡ true
all_counted Markup true = refl
all_counted Markup false = refl
all_counted Json true = refl
all_counted Json false = refl
all_counted Message true = refl
all_counted Message false = refl
all_counted Property true = refl
all_counted Property false = refl
all_counted Tap true = refl
all_counted Tap false = refl
all_counted Uri true = refl
all_counted Uri false = refl
all_counted Class true = refl
all_counted Class false = refl
all_counted Task true = refl
all_counted Task false = refl

pub safe : (form : Form) (shown : Bool) (name : List ℕ) → All (λ b. b < 256) name → AllPass (may_stand form) (flat_map (piece form shown) name)
safe form shown [] h = All-nil (λ x. may_stand form x ≡ true)
safe form shown (b ∷ bs) h =
    All-append (λ x. may_stand form x ≡ true) (piece form shown b) (flat_map (piece form shown) bs)
    (AllPass-from_list_all (may_stand form) (piece form shown b) (one_of (is_safe form shown) 256 b (all_safe form shown) (All-head (λ x. x < 256) b bs h)))
    (safe form shown bs (All-tail (λ x. x < 256) b bs h))

pub counted : (form : Form) (shown : Bool) (name : List ℕ) → All (λ b. b < 256) name → count_by (is_lead form) (flat_map (piece form shown) name) ≡ count_by (is_marked form shown) name
counted form shown [] h = refl
counted form shown (b ∷ bs) h =
    let first : is_counted form shown b ≡ true = one_of (is_counted form shown) 256 b (all_counted form shown) (All-head (λ x. x < 256) b bs h) in
    let here : count_by (is_lead form) (piece form shown b) ≡ cond {A = ℕ} (is_marked form shown b) 1 0 = grind (arith, nat_tests) in
    sum_by-append (λ x. cond {A = ℕ} (is_lead form x) 1 0) (piece form shown b) (flat_map (piece form shown) bs)
    ∙ ap (λ n. n + count_by (is_lead form) (flat_map (piece form shown) bs)) here
    ∙ ap (λ n. cond {A = ℕ} (is_marked form shown b) 1 0 + n) (counted form shown bs (All-tail (λ x. x < 256) b bs h))
    ∙ sym (sum_by-cons (λ x. cond {A = ℕ} (is_marked form shown x) 1 0) b bs)
