-- Lists of views of which one changes, and lists of numbers of which one grows.
use Rattle.std.proofs.Common.{◌≡◌, ℕ, zero, suc, ◌+◌, ◌<◌, ◌≤◌, List, [], ◌∷◌, ◌++◌, All, Bool, true, false, ◌||◌, map, set, get_or, length, cond, count_by, nat_eq, refl, sym, ap, subst, arith}
use Rattle.std.proofs.lemmas.Bool.{false≢true}
use Rattle.std.proofs.lemmas.Bool.Decides.{nat_tests}
use Rattle.std.proofs.lemmas.List.Elements.{All-nil, All-cons, All-head, All-tail, All-get_or}
use Rattle.std.proofs.lemmas.List.Sums.{sum_by-cons, sum_by_push, sum_by-append, sum_by-set, get_or-le-sum_by}
use Rattle.std.specs.List.{sum_by, list_any}
use mathlib.Core.Option.{some, some-injective, some-ne-none}
use lib.ListN.{get_elem?}
use Rattle.ld_tickets.specs.Draw.{once_below, times_in}

module _ {A : Type 0} where
  pub read_at : (xs : List A) (i : ℕ) (a : A) → get_elem? xs i ≡ some a → (i < length xs) × ((d : A) → get_or xs i d ≡ a)
  read_at [] i a e = absurd (some-ne-none a (sym e))
  read_at (x ∷ xs) zero a e = (omega arith, λ d. some-injective x a e)
  read_at (x ∷ xs) (suc i) a e = let r = read_at xs i a e in (omega (arith, r.0), r.1)

  -- the sum after one place has changed
  pub sum_by_put : (f : A → ℕ) (xs : List A) (i : ℕ) (a b : A) → get_elem? xs i ≡ some a → sum_by f (set xs i b) + f a ≡ sum_by f xs + f b
  sum_by_put f xs i a b e =
      let r = read_at xs i a e in
      let is : f (get_or xs i a) ≡ f a = ap f (r.1 a) in
      omega (arith, sum_by-set f xs i b a r.0)

  -- no place has more than all together
  pub at_le_sum_by : (f : A → ℕ) (xs : List A) (i : ℕ) (a : A) → get_elem? xs i ≡ some a → f a ≤ sum_by f xs
  at_le_sum_by f xs i a e =
      let r = read_at xs i a e in
      let is : f (get_or xs i a) ≡ f a = ap f (r.1 a) in
      omega (arith, get_or-le-sum_by f xs i a r.0)

  pub All-at : (P : A → Type 0) (xs : List A) (i : ℕ) (a : A) → get_elem? xs i ≡ some a → All P xs → P a
  All-at P xs i a e all = let r = read_at xs i a e in subst P (r.1 a) (All-get_or P xs i a r.0 all)

  pub sum_by-map : {B : Type 0} (f : B → ℕ) (g : A → B) (xs : List A) → sum_by f (map g xs) ≡ sum_by (λ x. f (g x)) xs
  sum_by-map f g [] = refl
  sum_by-map f g (x ∷ xs) =
      omega (arith, sum_by-map f g xs, sum_by-cons f (g x) (map g xs), sum_by-cons (λ y. f (g y)) x xs)

  pub sum_by-le-All : (f g : A → ℕ) (xs : List A) → All (λ x. f x ≤ g x) xs → sum_by f xs ≤ sum_by g xs
  sum_by-le-All f g [] all = omega arith
  sum_by-le-All f g (x ∷ xs) all =
      let P : A → Type 0 = λ y. f y ≤ g y in
      omega (arith, All-head P x xs all, sum_by-le-All f g xs (All-tail P x xs all), sum_by-cons f x xs, sum_by-cons g x xs)

  nowhere : (f g : A → ℕ) (xs : List A) → All (λ x. g x ≡ 0 → f x ≡ 0) xs → sum_by g xs ≡ 0 → sum_by f xs ≡ 0
  nowhere f g [] idle whole = refl
  nowhere f g (x ∷ xs) idle whole =
      let P : A → Type 0 = λ y. g y ≡ 0 → f y ≡ 0 in
      let first : g x ≡ 0 = omega (arith, sum_by-cons g x xs) in
      let rest : sum_by g xs ≡ 0 = omega (arith, sum_by-cons g x xs) in
      omega (arith, All-head P x xs idle first, nowhere f g xs (All-tail P x xs idle) rest, sum_by-cons f x xs)

  -- where one place has the whole of g, what is 0 without a part of g is there alone
  pub all_in_one : (f g : A → ℕ) (xs : List A) (i : ℕ) (a : A) → get_elem? xs i ≡ some a → All (λ x. g x ≡ 0 → f x ≡ 0) xs → sum_by g xs ≡ g a → sum_by f xs ≡ f a
  all_in_one f g [] i a e idle whole = absurd (some-ne-none a (sym e))
  all_in_one f g (x ∷ xs) zero a e idle whole =
      let P : A → Type 0 = λ y. g y ≡ 0 → f y ≡ 0 in
      let is : f x ≡ f a = ap f (some-injective x a e) in
      let is' : g x ≡ g a = ap g (some-injective x a e) in
      let rest : sum_by g xs ≡ 0 = omega (arith, sum_by-cons g x xs) in
      omega (arith, nowhere f g xs (All-tail P x xs idle) rest, sum_by-cons f x xs)
  all_in_one f g (x ∷ xs) (suc i) a e idle whole =
      let P : A → Type 0 = λ y. g y ≡ 0 → f y ≡ 0 in
      let there : g a ≤ sum_by g xs = at_le_sum_by g xs i a e in
      let first : g x ≡ 0 = omega (arith, sum_by-cons g x xs) in
      let rest : sum_by g xs ≡ g a = omega (arith, sum_by-cons g x xs) in
      omega (arith, All-head P x xs idle first, all_in_one f g xs i a e (All-tail P x xs idle) rest, sum_by-cons f x xs)

  abbrev pub ones : (A → Bool) → A → ℕ
  ones p x = cond {A = ℕ} (p x) 1 0

  counted_at : (p : A → Bool) (x : A) (xs : List A) (b : Bool) → p x ≡ b → (b || list_any p xs) ≡ true → (list_any p xs ≡ true → 0 < sum_by (ones p) xs)
      → 0 < sum_by (ones p) (x ∷ xs)
  counted_at p x xs true is passes later =
      let one : ones p x ≡ 1 = ap (λ b. cond {A = ℕ} b 1 0) is in
      omega (arith, one, sum_by-cons (ones p) x xs)
  counted_at p x xs false is passes later = omega (arith, later passes, sum_by-cons (ones p) x xs)

  -- an element that passes is counted
  pub counted : (p : A → Bool) (xs : List A) → list_any p xs ≡ true → 0 < sum_by (ones p) xs
  counted p [] passes = absurd (false≢true passes)
  counted p (x ∷ xs) passes = counted_at p x xs (p x) refl passes (counted p xs)

-- one more number
abbrev pub here : ℕ → ℕ → ℕ
here x k = cond {A = ℕ} (nat_eq x k) 1 0

pub times_push : (x k : ℕ) (drawn : List ℕ) → count_by (nat_eq x) (drawn ++ k ∷ []) ≡ count_by (nat_eq x) drawn + here x k
times_push x k drawn = sum_by_push (here x) drawn k

pub times-append : (x : ℕ) (a b : List ℕ) → count_by (nat_eq x) (a ++ b) ≡ count_by (nat_eq x) a + count_by (nat_eq x) b
times-append x a b = sum_by-append (here x) a b

pub once_more : (x k : ℕ) → once_below x (k + 1) ≡ once_below x k + here x k
once_more x k = grind (arith, nat_tests)

one_here : (k : ℕ) → here k k ≡ 1
one_here k = grind (arith, nat_tests)

below : (x k : ℕ) → 0 < once_below x k → x < k
below x k some_there = grind (arith, nat_tests)

-- what is counted no more often than below k is below k
pub all_below : (k : ℕ) (drawn : List ℕ) → ((x : ℕ) → count_by (nat_eq x) drawn ≤ once_below x k) → All (λ other. other < k) drawn
all_below k [] few = All-nil (λ other. other < k)
all_below k (y ∷ ys) few =
    All-cons (λ other. other < k) y ys
    (below y k (omega (arith, few y, sum_by-cons (here y) y ys, one_here y)))
    (all_below k ys (λ x. omega (arith, few x, sum_by-cons (here x) y ys)))

module _ {A : Type 0} (f : A → List ℕ) (x : ℕ) where
  pub times_last : (xs : List A) (a : A) → times_in x (map f (xs ++ a ∷ [])) ≡ times_in x (map f xs) + count_by (nat_eq x) (f a)
  times_last xs a =
      let g : A → ℕ = λ b. count_by (nat_eq x) (f b) in
      omega (arith, sum_by-map (count_by (nat_eq x)) f (xs ++ a ∷ []), sum_by-map (count_by (nat_eq x)) f xs, sum_by_push g xs a)

  pub times_first : (a : A) (xs : List A) → times_in x (map f (a ∷ xs)) ≡ count_by (nat_eq x) (f a) + times_in x (map f xs)
  times_first a xs = sum_by-cons (count_by (nat_eq x)) (f a) (map f xs)

module _ {A : Type 0} (p : A → Bool) where
  pub count_last : (xs : List A) (a : A) → count_by p (xs ++ a ∷ []) ≡ count_by p xs + cond {A = ℕ} (p a) 1 0
  count_last xs a = sum_by_push (ones p) xs a

  pub count_first : (a : A) (xs : List A) → count_by p (a ∷ xs) ≡ cond {A = ℕ} (p a) 1 0 + count_by p xs
  count_first a xs = sum_by-cons (ones p) a xs
