-- One turn of a search through a range of labels.
use Rattle.std.proofs.Common.{◌≡◌, inl, inr, ℕ, ◌+◌, ◌<◌, ◌≤◌, List, [], ◌∷◌, nat_eq, length, get_or, Contains, arith, sym, ap, subst, ◌∙◌}
use Rattle.std.specs.List.{IsDistinct}
use Rattle.std.proofs.lemmas.Bool.{cases_eq, eqb-true}
use Rattle.std.proofs.lemmas.Map.Views.{Contains-from_any}
use Rattle.std.proofs.lemmas.Map.Steps.{length-le_from_distinct_below}
use Rattle.std.proofs.lemmas.List.{get_or_append_left, get_or_default, length_push}
use Rattle.std.proofs.lemmas.List.Elements.{Contains-push_cases, Contains-get_or}
use Rattle.ld_graph.specs.Inner.Affected.{IsFound, IsIn, IsReached}
use Rattle.ld_graph.specs.Inner.Repairs.{IsAdded, IsOrReaches}
use Rattle.ld_graph.specs.Lists.{IsNear, list_at}
use Rattle.ld_graph.proofs.SoughtLemmas.{IsOrReaches-next}

module _ (near : ℕ → Type 0) (label : ℕ → ℕ) (low high : ℕ) where
  pub IsReached-added : (old mid new : List ℕ) (x : ℕ) → IsReached near label low high old mid → near x
      → IsIn low high (label x) → IsAdded mid x new → IsReached near label low high old new
  IsReached-added old mid new x h n e (inl a) = subst (IsReached near label low high old) (sym a.1) h
  IsReached-added old mid new x h n e (inr a) =
      let g = h.longer in let p = length_push mid x in
      subst (IsReached near label low high old) (sym a.1) (record {
        longer = omega (arith, g, p);
        front = λ i b. get_or_append_left mid (x ∷ []) 0 i (omega (arith, b, g)) ∙ h.front i b;
        fresh = λ k c. elim (Contains-push_cases mid x k c) [
          | inl m ↦ h.fresh k m
          | inr same ↦ inr (subst near same n, subst (λ z. IsIn low high (label z)) same e)
        ];
      })

  pub reached_keeps : (old new : List ℕ) (k : ℕ) → IsReached near label low high old new → Contains old k
      → Contains new k
  reached_keeps old new k h n =
      let l = n.1 in let g = h.longer in
      let at : get_or new n.0 0 ≡ k = h.front n.0 l ∙ get_or_default old n.0 0 k l ∙ n.2 in
      subst (Contains new) at (Contains-get_or new n.0 0 (omega (arith, l, g)))

module _ (lists : List (List ℕ)) (label : ℕ → ℕ) (n low high : ℕ) (list old new : List ℕ) (done : ℕ)
    (same : list ≡ list_at lists (get_or old done 0)) (ends : (x y : ℕ) → IsNear lists x y → y < n)
    (waits : done < length old) (h : IsFound (IsNear lists) label n low high old done)
    (g : IsReached (Contains list) label low high old new)
    (taken : (x : ℕ) → Contains list x → IsIn low high (label x) → Contains new x) where
  real : (y : ℕ) → Contains list y → IsNear lists (get_or old done 0) y
  real y = subst (λ l. Contains l y) same

  pub found-more : IsFound (IsNear lists) label n low high new (done + 1)
  found-more = record {
    some = let a = h.some in let b = g.longer in omega (arith, a, b);
    upto = let b = g.longer in omega (arith, waits, b);
    within = λ k c. elim (g.fresh k c) [
      | inl d ↦ h.within k d
      | inr d ↦ (ends (get_or old done 0) k (real k d.0), d.1)
    ];
    reached = λ k c. subst (λ z. IsOrReaches (IsNear lists) z k) (sym (g.front 0 h.some)) (elim (g.fresh k c) [
      | inl d ↦ h.reached k d
      | inr d ↦ IsOrReaches-next (IsNear lists) (get_or old 0 0) (get_or old done 0) k
          (h.reached (get_or old done 0) (Contains-get_or old done 0 waits)) (real k d.0)
    ]);
    closed = λ i y l s e. elim (cases_eq i done) [
      | inl z ↦ taken y (subst (λ l. Contains l y) (sym same) (subst (λ w. IsNear lists w y) (ap (λ w. get_or new w 0) z ∙ g.front done waits) s)) e
      | inr z ↦ reached_keeps (Contains list) label low high old new y g
          (h.closed i y (omega (arith, l, z)) (subst (λ w. IsNear lists w y) (g.front i (omega (arith, l, z, waits))) s) e)
    ];
  }

-- no more are found than there are nodes
module _ {near : ℕ → ℕ → Type 0} {label : ℕ → ℕ} {n low high : ℕ} {found : List ℕ} {done : ℕ} (h : IsFound near label n low high found done) where
  pub found-few : IsDistinct nat_eq found → length found ≤ n
  found-few once = length-le_from_distinct_below found n once
      (λ q e. (h.within q (Contains-from_any {eq = nat_eq} (λ x y t. eqb-true x y t) q found e)).0)

  pub found-less : (less : ℕ) → less ≤ done → IsFound near label n low high found less
  found-less less l = record {
    some = h.some;
    upto = omega (arith, h.upto, l);
    within = h.within;
    reached = h.reached;
    closed = λ i y b. h.closed i y (omega (arith, b, l));
  }
