-- A text grows piece by piece.
use Rattle.std.proofs.Common.{ℕ, ◌≡◌, ◌∙◌, ◌++◌, List, ap, append_assoc}

-- two pieces
pub first : (old w d : List ℕ) {new : List ℕ} → new ≡ old ++ w ++ d → new ≡ old ++ (w ++ d)
first old w d e = e ∙ append_assoc old w d

-- a piece behind what was written
pub then_one : (old x y : List ℕ) {mid new : List ℕ} → mid ≡ old ++ x → new ≡ mid ++ y → new ≡ old ++ (x ++ y)
then_one old x y h e = e ∙ ap (λ t. t ++ y) h ∙ append_assoc old x y

-- two pieces behind what was written
pub then_two : (old x w d : List ℕ) {mid new : List ℕ} → mid ≡ old ++ x → new ≡ mid ++ w ++ d → new ≡ old ++ (x ++ w ++ d)
then_two old x w d h e = e ∙ ap (λ t. t ++ w ++ d) h ∙ ap (λ t. t ++ d) (append_assoc old x w) ∙ append_assoc old (x ++ w) d
