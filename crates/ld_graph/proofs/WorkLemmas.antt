-- How much the search for components has left to do, and how it begins and ends.
use Rattle.std.proofs.Common.{◌≡◌, ◌≢◌, ℕ, zero, suc, ◌+◌, ◌<◌, ◌≤◌, ◌⊎◌, inl, inr}
use Rattle.std.proofs.Common.{List, [], ◌∷◌, ◌++◌, length, get_or, set, take, arith, cond, count_by}
use Rattle.std.proofs.Common.{refl, sym, ap, ◌∙◌}
use Rattle.std.proofs.lemmas.Bool.{cases_lt, cases_eq}
use Rattle.std.proofs.lemmas.List.{get_or_past, take_more, take_at, length-take-le}
use Rattle.std.proofs.lemmas.List.{get_or_push, get_or-set_same, get_or-set_other, length-set}
use Rattle.std.proofs.lemmas.List.Sums.{sum_by-set}
use Rattle.ld_graph.specs.declared.trail.Stage.{Stage}
use Rattle.ld_graph.specs.declared.trail.Stage.TheVariants.{Fresh, Open, Closed}
use Rattle.ld_graph.specs.Lists.{IsNear}
use Rattle.ld_graph.specs.Components.{AreTogether, AreComponents}
use Rattle.ld_graph.specs.Inner.Trails.{PlainTrail, stage_at, IsTrail, IsToldFrom, rest, is_fresh}
use Rattle.ld_graph.proofs.TrailLemmas.{are_together, reaches-on, same_class}
use Rattle.ld_graph.proofs.WalkLemmas.{IsWalk-same}

count_set : (stages : List Stage) (x : ℕ) (s : Stage) → x < length stages
    → count_by is_fresh (set stages x s) + cond {A = ℕ} (is_fresh (get_or stages x Fresh)) 1 0
    ≡ count_by is_fresh stages + cond {A = ℕ} (is_fresh s) 1 0
count_set stages x s l = sum_by-set (λ o. cond {A = ℕ} (is_fresh o) 1 0) stages x s Fresh l

-- one class less is fresh
pub count_entered : (stages : List Stage) (x i : ℕ) → x < length stages → get_or stages x Fresh ≡ Fresh
    → count_by is_fresh (set stages x (Open i)) + 1 ≡ count_by is_fresh stages
count_entered stages x i l e =
    let s = count_set stages x (Open i) l in
    let f : cond {A = ℕ} (is_fresh (get_or stages x Fresh)) 1 0 ≡ 1 = ap (λ o. cond {A = ℕ} (is_fresh o) 1 0) e in
    let g : count_by is_fresh stages + cond {A = ℕ} (is_fresh (Open i)) 1 0 ≡ count_by is_fresh stages + 0 = refl in
    omega (arith, s, f, g)

-- as many classes are fresh
pub count_told : (stages : List Stage) (x i r : ℕ) → x < length stages → get_or stages x Fresh ≡ Open i
    → count_by is_fresh (set stages x (Closed r)) ≡ count_by is_fresh stages
count_told stages x i r l e =
    let s = count_set stages x (Closed r) l in
    let f : cond {A = ℕ} (is_fresh (get_or stages x Fresh)) 1 0 ≡ 0 = ap (λ o. cond {A = ℕ} (is_fresh o) 1 0) e in
    let g : count_by is_fresh stages + cond {A = ℕ} (is_fresh (Closed r)) 1 0 ≡ count_by is_fresh stages + 0 = refl in
    omega (arith, s, f, g)

-- one successor less is left
pub rest_next : (lists : List (List ℕ)) (nexts : List ℕ) (x : ℕ) → x < length nexts → x < length lists
    → get_or nexts x 0 < length (get_or lists x [])
    → rest lists (set nexts x (get_or nexts x 0 + 1)) + 1 ≡ rest lists nexts
rest_next [] nexts x a b c = absurd (omega (arith, b))
rest_next (near ∷ lists) [] x a b c = absurd (omega (arith, a))
rest_next (near ∷ lists) (n ∷ nexts) zero a b c = omega (arith, c)
rest_next (near ∷ lists) (n ∷ nexts) (suc x) a b c = let r = rest_next lists nexts x (omega (arith, a)) (omega (arith, b)) c in omega (arith, r)

-- where the walk has ended, no class waits
pub ended_known : (lists : List (List ℕ)) (t : PlainTrail) → IsTrail lists t → length t.path ≡ 0 → (x : ℕ)
    → (stage_at t x ≡ Fresh → ⊥) → (r : ℕ) × (stage_at t x ≡ Closed r)
ended_known lists t h e x met = by (stage_at t x) refl
  where
    by : (s : Stage) → stage_at t x ≡ s → (r : ℕ) × (stage_at t x ≡ Closed r)
    by Fresh f = absurd (met f)
    by (Open i) f = absurd (let w = h.stages.back x i f in let a = w.0 in let b = h.none e in omega (arith, a, b))
    by (Closed r) f = (r, f)

-- where each class has a component, they are the components
pub known-components : (lists : List (List ℕ)) (t : PlainTrail) (n : ℕ) (components : List ℕ) → IsTrail lists t
    → ((x : ℕ) → x < n → stage_at t x ≡ Closed (get_or components x 0)) → length components ≡ n
    → AreComponents (IsNear lists) n components
known-components lists t n components h known len = record { len = len; each = λ a b l m. (λ e. to a b l m e, λ e. back a b l m e) }
  where
    to : (a b : ℕ) → a < n → b < n → get_or components a 0 ≡ get_or components b 0 → AreTogether (IsNear lists) a b
    to a b l m e =
        let p : stage_at t a ≡ Closed (get_or components b 0) = known a l ∙ ap (λ z. Closed z) e in
        let r = h.closed.sound a (get_or components b 0) p in
        let s = h.closed.sound b (get_or components b 0) (known b m) in
        are_together (IsNear lists) a b (reaches-on (IsNear lists) a (get_or components b 0) b r.0 s.1) (reaches-on (IsNear lists) b (get_or components b 0) a s.0 r.1)

    back : (a b : ℕ) → a < n → b < n → AreTogether (IsNear lists) a b → get_or components a 0 ≡ get_or components b 0
    back a b l m (inl e) = ap (λ z. get_or components z 0) e
    back a b l m (inr w) =
        let r = h.closed.whole a b (get_or components a 0) (known a l) (inr w.0) (inr w.1) in
        same_class (get_or components a 0) (get_or components b 0) (sym r ∙ known b m)

-- the last class that waits is taken away
pub popped : (all old new : List ℕ) (x n : ℕ) → length new ≡ n → n < length all → old ≡ take (n + 1) all
    → old ≡ new ++ x ∷ [] → (new ≡ take n all) × (x ≡ get_or all n 0)
popped all old new x n len l e f =
    let g : new ++ x ∷ [] ≡ take n all ++ get_or all n 0 ∷ [] = sym f ∙ e ∙ take_more all n 0 l in
    let k : length (take n all) ≡ n = length-take-le n all (omega arith) in (
      sym (take_at new (x ∷ []) n len) ∙ ap (λ z. take n z) g ∙ take_at (take n all) (get_or all n 0 ∷ []) n k,
      sym (get_or_push new x 0 n len) ∙ ap (λ z. get_or z n 0) g ∙ get_or_push (take n all) (get_or all n 0) 0 n k,
    )

-- and its component is told
module _ (waiting : List ℕ) (stages : List Stage) (waits : (i : ℕ) → i < length waiting → get_or stages (get_or waiting i 0) Fresh ≡ Open i)
    (n class : ℕ) (within : n < length waiting) (new : List Stage) (h : IsToldFrom waiting (n + 1) class stages new)
    (x : ℕ) (is : x ≡ get_or waiting n 0) where
  same_wait : (i j : ℕ) → Open i ≡ Open j → i ≡ j
  same_wait i j e = cc

  other_wait : (j : ℕ) → n + 1 ≤ j → j < length waiting → get_or waiting j 0 ≢ x
  other_wait j a b q =
      let e : j ≡ n = same_wait j n (sym (waits j b) ∙ ap (λ z. get_or stages z Fresh) (q ∙ is) ∙ waits n within) in
      omega (arith, e, a)

  tell_here : get_or new x Fresh ≡ Open n
  tell_here = h.rest x other_wait ∙ ap (λ z. get_or stages z Fresh) is ∙ waits n within

  pub tell_within : x < length new
  tell_within = elim (cases_lt x (length new)) [
    | inl l ↦ l
    | inr l ↦ let e : get_or new x Fresh ≡ Fresh = get_or_past new x Fresh l in let f = tell_here in cc
  ]

  pub tell_count : count_by is_fresh (set new x (Closed class)) ≡ count_by is_fresh new
  tell_count = count_told new x n class tell_within tell_here

  pub tell_next : IsToldFrom waiting n class stages (set new x (Closed class))
  tell_next = record {
    len = length-set new x (Closed class) ∙ h.len;
    told = λ j a b. to j a b (cases_eq (get_or waiting j 0) x);
    rest = λ y g. get_or-set_other new x y (Closed class) Fresh (λ e. g n (omega arith) within (sym is ∙ sym e))
        ∙ h.rest y (λ j a b. g j (omega arith) b);
  }
    where
      to : (j : ℕ) → n ≤ j → j < length waiting → (get_or waiting j 0 ≡ x) ⊎ (get_or waiting j 0 ≢ x)
          → get_or (set new x (Closed class)) (get_or waiting j 0) Fresh ≡ Closed class
      to j a b (inl e) = ap (λ z. get_or (set new x (Closed class)) z Fresh) e ∙ get_or-set_same new x (Closed class) Fresh tell_within
      to j a b (inr ne) = get_or-set_other new x (get_or waiting j 0) (Closed class) Fresh ne ∙ by (cases_eq j n)
        where
          by : (j ≡ n) ⊎ (j ≢ n) → get_or new (get_or waiting j 0) Fresh ≡ Closed class
          by (inl e) = absurd (ne (ap (λ z. get_or waiting z 0) e ∙ sym is))
          by (inr m) = h.told j (omega (arith, m)) b

-- the components of the same steps
pub AreComponents-same : (s t : ℕ → ℕ → Type 0) → ((a b : ℕ) → s a b → t a b) → ((a b : ℕ) → t a b → s a b)
    → (n : ℕ) (components : List ℕ) → AreComponents s n components → AreComponents t n components
AreComponents-same s t to back n components h = record {
  len = h.len;
  each = λ a b l m. (
    λ e. forth a b ((h.each a b l m).0 e),
    λ w. (h.each a b l m).1 (turned a b w),
  );
}
  where
    forth : (a b : ℕ) → AreTogether s a b → AreTogether t a b
    forth a b (inl e) = inl e
    forth a b (inr w) = inr ((w.0.0, IsWalk-same s t to a b w.0.0 w.0.1), (w.1.0, IsWalk-same s t to b a w.1.0 w.1.1))

    turned : (a b : ℕ) → AreTogether t a b → AreTogether s a b
    turned a b (inl e) = inl e
    turned a b (inr w) = inr ((w.0.0, IsWalk-same t s back a b w.0.0 w.0.1), (w.1.0, IsWalk-same t s back b a w.1.0 w.1.1))
