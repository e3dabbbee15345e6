-- How the search for components tells a component that is whole.
use Rattle.std.proofs.Common.{◌≡◌, ◌≢◌, ℕ, ◌+◌, ◌<◌, ◌≤◌, ◌⊎◌, inl, inr}
use Rattle.std.proofs.Common.{List, length, get_or, take, arith}
use Rattle.std.proofs.Common.{refl, sym, ap, subst, ◌∙◌}
use Rattle.std.proofs.lemmas.Bool.{cases_lt, cases_eq}
use Rattle.std.proofs.lemmas.List.{get_or-take, get_or_default, length-take-le}
use Rattle.ld_graph.specs.declared.trail.Stage.{Stage}
use Rattle.ld_graph.specs.declared.trail.Stage.TheVariants.{Fresh, Open, Closed}
use Rattle.ld_graph.specs.declared.trail.Frame.{Frame}
use Rattle.ld_graph.specs.Lists.{IsNear, list_at}
use Rattle.ld_graph.specs.Inner.Repairs.{IsOrReaches}
use Rattle.ld_graph.specs.Inner.Trails.{PlainTrail, no_frame, stage_at, next_at, wait_at, frame_at, IsLimit, IsHandled}
use Rattle.ld_graph.specs.Inner.Trails.{IsFrame, AreStages, IsTrail, IsToldFrom, last_of, top_of, told}
use Rattle.ld_graph.proofs.TrailLemmas.{reaches-within, same_class, same_place, frame-kept}
use Rattle.ld_graph.proofs.LowerLemmas.{top_frame, limit_low}

module _ (lists : List (List ℕ)) (t : PlainTrail) (h : IsTrail lists t) (some : 0 < length t.path) (stages : List Stage) where
  abbrev R : ℕ → ℕ → Type 0
  R a b = IsOrReaches (IsNear lists) a b

  abbrev last : ℕ
  last = last_of t

  abbrev top : Frame
  top = top_of t

  -- the class waits at the last frame's place or behind
  abbrev IsInside : ℕ → Type 0
  IsInside x = (j : ℕ) × ((top.position ≤ j) × ((j < length t.waiting) × (wait_at t j ≡ x)))

  module _ (done : length (list_at lists top.class) ≤ next_at t top.class) (whole : top.low ≡ top.position)
      (new : IsToldFrom t.waiting top.position top.class t.stages stages) where
    abbrev s : PlainTrail
    s = told t stages

    -- which classes get a component
    inside_or : (x : ℕ) → IsInside x ⊎ (stage_at s x ≡ stage_at t x)
    inside_or x = by (stage_at t x) refl
      where
        by : (stage : Stage) → stage_at t x ≡ stage → IsInside x ⊎ (stage_at s x ≡ stage_at t x)
        by Fresh e = inr (new.rest x (λ j a b q. let f = ap (λ z. stage_at t z) q in let g = h.stages.at j b in cc))
        by (Closed r) e = inr (new.rest x (λ j a b q. let f = ap (λ z. stage_at t z) q in let g = h.stages.at j b in cc))
        by (Open i) e = elim (cases_lt i top.position) [
          | inl l ↦ inr (new.rest x (λ j a b q.
              let f : stage_at t x ≡ Open j = ap (λ z. stage_at t z) (sym q) ∙ h.stages.at j b in
              let g : i ≡ j = same_place i j (sym e ∙ f) in omega (arith, g, a, l)))
          | inr l ↦ let w = h.stages.back x i e in inl (i, (l, (w.0, w.1)))
        ]

    inside_waits : (x : ℕ) → (i : IsInside x) → stage_at t x ≡ Open i.0
    inside_waits x i = ap (λ z. stage_at t z) (sym i.1.1.1) ∙ h.stages.at i.0 i.1.1.0

    inside_told : (x : ℕ) → IsInside x → stage_at s x ≡ Closed top.class
    inside_told x i = ap (λ z. stage_at s z) (sym i.1.1.1) ∙ new.told i.0 i.1.0 i.1.1.0

    kept : (x r : ℕ) → stage_at t x ≡ Closed r → stage_at s x ≡ Closed r
    kept x r e = elim (inside_or x) [
      | inl i ↦ let f = inside_waits x i in cc
      | inr f ↦ f ∙ e
    ]

    was : (x r : ℕ) → stage_at s x ≡ Closed r → (IsInside x × (r ≡ top.class)) ⊎ (stage_at t x ≡ Closed r)
    was x r e = elim (inside_or x) [
      | inl i ↦ inl (i, same_class r top.class (sym e ∙ inside_told x i))
      | inr f ↦ inr (sym f ∙ e)
    ]

    pub told-met : (x : ℕ) → stage_at s x ≡ Fresh → stage_at t x ≡ Fresh
    told-met x e = elim (inside_or x) [
      | inl i ↦ let f = inside_told x i in cc
      | inr f ↦ sym f ∙ e
    ]

    waiting_len : length (take top.position t.waiting) ≡ top.position
    waiting_len = let f = top_frame lists t h some in let a = f.starts in length-take-le top.position t.waiting (omega (arith, a))

    path_len : length (take last t.path) ≡ last
    path_len = length-take-le last t.path (omega arith)

    wait_same : (j : ℕ) → j < top.position → wait_at s j ≡ wait_at t j
    wait_same j b = get_or-take top.position t.waiting j 0 b

    frame_same : (k : ℕ) → k < last → frame_at s k ≡ frame_at t k
    frame_same k b = get_or-take last t.path k no_frame b

    told_stages : AreStages lists s
    told_stages = record { at = at; back = back; fresh = λ x e. h.stages.fresh x (told-met x e) }
      where
        at : (i : ℕ) → i < length (take top.position t.waiting) → stage_at s (wait_at s i) ≡ Open i
        at i b =
            let l = waiting_len in
            ap (λ z. stage_at s z) (wait_same i (omega (arith, l, b))) ∙ by (inside_or (wait_at t i))
          where
            here : stage_at t (wait_at t i) ≡ Open i
            here = let l = waiting_len in let f = (top_frame lists t h some).starts in h.stages.at i (omega (arith, l, b, f))

            by : IsInside (wait_at t i) ⊎ (stage_at s (wait_at t i) ≡ stage_at t (wait_at t i)) → stage_at s (wait_at t i) ≡ Open i
            by (inl q) =
                let p : q.0 ≡ i = same_place q.0 i (sym (inside_waits (wait_at t i) q) ∙ here) in
                let c = q.1.0 in let l = waiting_len in absurd (omega (arith, p, c, l, b))
            by (inr e) = e ∙ here

        back : (x i : ℕ) → stage_at s x ≡ Open i → (i < length (take top.position t.waiting)) × (wait_at s i ≡ x)
        back x i e = elim (inside_or x) [
          | inl q ↦ let f = inside_told x q in cc
          | inr f ↦ elim (cases_lt i top.position) [
            | inl l ↦ let p = waiting_len in let q = h.stages.back x i (sym f ∙ e) in (omega (arith, p, l), wait_same i l ∙ q.1)
            | inr l ↦ let q = h.stages.back x i (sym f ∙ e) in let g = inside_told x (i, (l, (q.0, q.1))) in cc
          ]
        ]

    -- the successors of a class of the component are known
    inside_ahead : (x y : ℕ) → IsInside x → IsNear lists x y → (r : ℕ) × (stage_at s y ≡ Closed r)
    inside_ahead x y i n =
        let f = top_frame lists t h some in
        let l = n.1 in
        let at : list_at lists (wait_at t i.0) ≡ list_at lists x = ap (λ z. list_at lists z) i.1.1.1 in
        let m : n.0 < length (list_at lists (wait_at t i.0)) = subst (λ q. n.0 < length q) (sym at) l in
        let read : get_or (list_at lists (wait_at t i.0)) n.0 0 ≡ y =
        ap (λ q. get_or q n.0 0) at ∙ get_or_default (list_at lists x) n.0 0 y l ∙ n.2 in
        let a = all i in
        by y read (f.handled i.0 i.1.0 i.1.1.0 n.0 (omega (arith, m, a)) m)
      where
        all : (q : IsInside x) → length (list_at lists (wait_at t q.0)) ≤ next_at t (wait_at t q.0)
        all q = cases (cases_eq q.0 top.position)
          where
            cases : (q.0 ≡ top.position) ⊎ (q.0 ≢ top.position) → length (list_at lists (wait_at t q.0)) ≤ next_at t (wait_at t q.0)
            cases (inl e) = subst (λ z. length (list_at lists z) ≤ next_at t z)
                (sym (top_frame lists t h some).class ∙ ap (λ z. wait_at t z) (sym e)) done
            cases (inr ne) = let a = q.1.0 in (top_frame lists t h some).finished q.0 (omega (arith, a, ne)) q.1.1.0

        by : (z : ℕ) → get_or (list_at lists (wait_at t i.0)) n.0 0 ≡ z → IsHandled t top.low (get_or (list_at lists (wait_at t i.0)) n.0 0)
            → (r : ℕ) × (stage_at s z ≡ Closed r)
        by z e (inl c) = (c.0, ap (λ q. stage_at s q) (sym e) ∙ kept _ c.0 c.1)
        by z e (inr c) = let a = c.1.0 in (top.class, inside_told z (c.0, (omega (arith, a, whole), (c.1.1.0, c.1.1.1 ∙ e))))

    told_ahead : (x y r : ℕ) → stage_at s x ≡ Closed r → IsNear lists x y → (q : ℕ) × (stage_at s y ≡ Closed q)
    told_ahead x y r e n = elim (was x r e) [
      | inl i ↦ inside_ahead x y i.0 n
      | inr c ↦ let q = h.closed.ahead x y r c n in (q.0, kept y q.0 q.1)
    ]

    told_whole : (x y r : ℕ) → stage_at s x ≡ Closed r → R x y → R y x → stage_at s y ≡ Closed r
    told_whole x y r e a b = by (was x r e)
      where
        known : (q : ℕ) × (stage_at s y ≡ Closed q)
        known = reaches-within (IsNear lists) (λ z. (q : ℕ) × (stage_at s z ≡ Closed q)) (λ z w k n. told_ahead z w k.0 k.1 n) x y (r, e) a

        by2 : IsInside x → r ≡ top.class → (q : ℕ) → stage_at s y ≡ Closed q → (IsInside y × (q ≡ top.class)) ⊎ (stage_at t y ≡ Closed q) → stage_at s y ≡ Closed r
        by2 i same q f (inl j) = let g = j.1 in cc
        by2 i same q f (inr c) =
            let back = reaches-within (IsNear lists) (λ z. (k : ℕ) × (stage_at t z ≡ Closed k)) (λ z w k n. h.closed.ahead z w k.0 k.1 n) y x (q, c) b in
            let g = inside_waits x i in let d = back.1 in cc

        by : (IsInside x × (r ≡ top.class)) ⊎ (stage_at t x ≡ Closed r) → stage_at s y ≡ Closed r
        by (inl i) = by2 i.0 i.1 known.0 known.1 (was y known.0 known.1)
        by (inr c) = kept y r (h.closed.whole x y r c a b)

    told_sound : (x r : ℕ) → stage_at s x ≡ Closed r → R x r × R r x
    told_sound x r e = elim (was x r e) [
      | inl i ↦
          let f = top_frame lists t h some in
          subst (λ z. R x z × R z x) (sym i.1) (subst (λ z. R z top.class × R top.class z) i.0.1.1.1
          (f.back i.0.0 i.0.1.1.0, f.ahead i.0.0 i.0.1.0 i.0.1.1.0))
      | inr c ↦ h.closed.sound x r c
    ]

    told_frames : (k limit : ℕ) → IsLimit s k limit → IsFrame lists s limit (frame_at s k)
    told_frames k limit is =
        let i = inside is in
        let old = earlier is in
        let f = h.frames k limit old in
        let l = limit_low lists t h some k limit old i in
        let p = waiting_len in let w = (top_frame lists t h some).starts in
        subst (IsFrame lists s limit) (sym (frame_same k i))
        (frame-kept lists t s limit (frame_at t k) f (omega (arith, l, p)) (λ j c. wait_same j (omega (arith, l)))
        (λ j a b. subst (λ z. R (frame_at t k).class z) (sym (wait_same j (omega (arith, b, p)))) (f.ahead j a (omega (arith, b, p, w))))
        (λ y g. handled (frame_at t k).low y g) (λ j c. refl))
      where
        inside : IsLimit s k limit → k < last
        inside (inl a) = let b = a.0 in let p = path_len in omega (arith, b, p)
        inside (inr a) = let b = a.0 in let p = path_len in omega (arith, b, p)

        earlier : IsLimit s k limit → IsLimit t k limit
        earlier (inl a) = let b = a.0 in let p = path_len in
            inl (omega (arith, b, p), a.1 ∙ ap (λ f. f.position) (frame_same (k + 1) (omega (arith, b, p))))
        earlier (inr a) = let b = a.0 in let p = path_len in let e : k + 1 ≡ last = omega (arith, b, p) in
            inl (omega (arith, e), a.1 ∙ waiting_len ∙ ap (λ z. (frame_at t z).position) (sym e))

        handled : (low y : ℕ) → IsHandled t low y → IsHandled s low y
        handled low y (inl c) = inl (c.0, kept y c.0 c.1)
        handled low y (inr c) = elim (cases_lt c.0 top.position) [
          | inl l ↦ let p = waiting_len in inr (c.0, (c.1.0, (omega (arith, l, p), wait_same c.0 l ∙ c.1.1.1)))
          | inr l ↦ inl (top.class, inside_told y (c.0, (l, (c.1.1.0, c.1.1.1))))
        ]

    pub told-is : IsTrail lists s
    told-is = record {
      stages_len = new.len ∙ h.stages_len;
      nexts_len = h.nexts_len;
      stages = told_stages;
      closed = record { sound = told_sound; whole = told_whole; ahead = told_ahead };
      frames = told_frames;
      rising = λ k l a b. let p = path_len in rw (frame_same k (omega (arith, p)), frame_same l (omega (arith, p))) (h.rising k l a (omega (arith, p)));
      first = λ b. let p = path_len in ap (λ f. f.position) (frame_same 0 (omega (arith, p))) ∙ h.first some;
      none = λ e. let p = path_len in let q = waiting_len in
          let z : last ≡ 0 = omega (arith, p, e) in
          let f : top.position ≡ 0 = ap (λ k. (frame_at t k).position) z ∙ h.first some in omega (arith, q, f);
    }
