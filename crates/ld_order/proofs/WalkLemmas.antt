-- A walk along the ring, that writes something to each node.
use Rattle.std.proofs.Common.{◌≡◌, ◌≢◌, inl, inr, ℕ, ◌+◌, ◌<◌, List, arith, get_or, set, length, sym, ap, ◌∙◌, get_or-set_other, get_or-set_same}
use Rattle.std.proofs.lemmas.Bool.{cases_eq}
use Rattle.ld_order.specs.Inner.Rings.{AreLinked, rank}
use Rattle.ld_order.proofs.RankLemmas.{rank-once}

module _ (n : ℕ) (label next prev : ℕ → ℕ) (r : AreLinked n label next prev n) (written : List ℕ) (place node value : ℕ)
    (f : ℕ → ℕ) (len : length written ≡ n) (l : node < n) (here : rank n label node ≡ place) (is : value ≡ f place)
  where
    pub walk-more : ((c : ℕ) → c < n → rank n label c < place → get_or written c 0 ≡ f (rank n label c))
        → (c : ℕ) → c < n → rank n label c < place + 1 → get_or (set written node value) c 0 ≡ f (rank n label c)
    walk-more done c h k = elim (cases_eq c node) [
      | inl e ↦
          let q : rank n label c ≡ place = ap (rank n label) e ∙ here in
          ap (λ k. get_or (set written node value) k 0) e
          ∙ get_or-set_same written node value 0 (omega (arith, l, len)) ∙ is ∙ ap f (sym q)
      | inr e ↦
          let ne : rank n label c ≢ place = λ w. e (rank-once n label next prev r c node h l (w ∙ sym here)) in
          get_or-set_other written node c value 0 e ∙ done c h (omega (arith, k, ne))
    ]
