-- One line more of a list of lines.
use Rattle.std.proofs.Common.{ℕ, zero, suc, ◌≡◌, ◌+◌, false, List, [], ◌∷◌, ◌++◌, take, drop, sym, ap, add-one}
use Rattle.std.proofs.Common.{subst, Result, Ok, Err, is_ok, All}
use Rattle.std.specs.Prelude.{is_err, if◌then◌else◌}
use Rattle.std.proofs.lemmas.List.Elements.{All-push}

-- what is taken and what is left, one element on
pub take-next : {X : Type 0} (xs : List X) (k : ℕ) (x : X) (ys : List X) → drop k xs ≡ x ∷ ys → take (k + 1) xs ≡ take k xs ++ x ∷ []
take-next {X} xs k x ys is = rw add-one (by xs k is)
  where
    by : (xs : List X) (k : ℕ) → drop k xs ≡ x ∷ ys → take (suc k) xs ≡ take k xs ++ x ∷ []
    by [] zero is = absurd (cc)
    by [] (suc k) is = absurd (cc)
    by (z ∷ zs) zero is = ap (λ o. take 1 o) is
    by (z ∷ zs) (suc k) is = ap (λ o. z ∷ o) (by zs k is)

pub drop-next : {X : Type 0} (xs : List X) (k : ℕ) (x : X) (ys : List X) → drop k xs ≡ x ∷ ys → drop (k + 1) xs ≡ ys
drop-next {X} xs k x ys is = rw add-one (by xs k is)
  where
    by : (xs : List X) (k : ℕ) → drop k xs ≡ x ∷ ys → drop (suc k) xs ≡ ys
    by [] zero is = absurd (cc)
    by [] (suc k) is = absurd (cc)
    by (z ∷ zs) zero is = ap (λ o. drop 1 o) is
    by (z ∷ zs) (suc k) is = by zs k is

-- a list after a push that was refused or not
pub pushed : {X A E : Type 0} (r : Result A E) (new old : List X) (x : X) → new ≡ (if is_ok r then old ++ x ∷ [] else old) → is_err r ≡ false → new ≡ old ++ x ∷ []
pushed (Ok a) new old x is fine = is
pushed (Err e) new old x is fine = absurd (cc)

pub pushed-all : {X A E : Type 0} (P : X → Type 0) (r : Result A E) (new old : List X) (x : X) → new ≡ (if is_ok r then old ++ x ∷ [] else old) → All P old → P x → All P new
pushed-all {X} P r new old x is olds one = let Q : List X → Type 0 = λ xs. All P xs in subst Q (sym is) (by r)
  where
    by : {A E : Type 0} (r : Result A E) → All P (if is_ok r then old ++ x ∷ [] else old)
    by (Ok a) = All-push P old x olds one
    by (Err e) = olds
