-- A text that is written part by part.
use Rattle.std.proofs.Common.{◌≡◌, ◌++◌, List, ℕ, ◌∙◌, append_assoc}

-- five parts, each behind some words, and what ends the line
pub parts_in_line : (old w₁ n₁ w₂ n₂ w₃ n₃ w₄ n₄ w₅ n₅ end t₁ t₂ t₃ t₄ t₅ t₆ : List ℕ)
    → t₁ ≡ old ++ w₁ ++ n₁ → t₂ ≡ t₁ ++ w₂ ++ n₂ → t₃ ≡ t₂ ++ w₃ ++ n₃ → t₄ ≡ t₃ ++ w₄ ++ n₄ → t₅ ≡ t₄ ++ w₅ ++ n₅ → t₆ ≡ t₅ ++ end
    → t₆ ≡ old ++ (w₁ ++ n₁ ++ w₂ ++ n₂ ++ w₃ ++ n₃ ++ w₄ ++ n₄ ++ w₅ ++ n₅ ++ end)
parts_in_line old w₁ n₁ w₂ n₂ w₃ n₃ w₄ n₄ w₅ n₅ end t₁ t₂ t₃ t₄ t₅ t₆ p₁ p₂ p₃ p₄ p₅ p₆ =
    p₆ ∙ (λ i. (p₅ ∙ (λ j. (p₄ ∙ (λ k. (p₃ ∙ (λ l. (p₂ ∙ (λ m. p₁ m ++ w₂ ++ n₂)) l ++ w₃ ++ n₃)) k ++ w₄ ++ n₄)) j ++ w₅ ++ n₅)) i ++ end) ∙ joined
  where
    joined : old ++ w₁ ++ n₁ ++ w₂ ++ n₂ ++ w₃ ++ n₃ ++ w₄ ++ n₄ ++ w₅ ++ n₅ ++ end ≡ old ++ (w₁ ++ n₁ ++ w₂ ++ n₂ ++ w₃ ++ n₃ ++ w₄ ++ n₄ ++ w₅ ++ n₅ ++ end)
    joined = simp append_assoc
