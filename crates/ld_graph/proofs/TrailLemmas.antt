-- How the search for components goes on.
use Rattle.std.proofs.Common.{◌≡◌, ◌≢◌, ℕ, zero, suc, ◌+◌, ◌<◌, ◌≤◌, ◌⊎◌, inl, inr}
use Rattle.std.proofs.Common.{List, [], ◌∷◌, ◌++◌, length, get_or, arith}
use Rattle.std.proofs.Common.{refl, sym, ap, subst, ◌∙◌}
use Rattle.std.proofs.lemmas.Bool.{cases_lt, cases_eq}
use Rattle.std.proofs.lemmas.List.{get_or_append_left, get_or_push, length_push, get_or-set_same}
use Rattle.std.proofs.lemmas.List.{get_or-set_other, length-set}
use Rattle.ld_graph.specs.declared.trail.Stage.TheVariants.{Fresh, Open, Closed}
use Rattle.ld_graph.specs.declared.trail.Frame.{Frame}
use Rattle.ld_graph.specs.Lists.{IsNear, list_at}
use Rattle.ld_graph.specs.Walks.{HasWalk}
use Rattle.ld_graph.specs.Components.{AreTogether}
use Rattle.ld_graph.specs.Inner.Repairs.{IsOrReaches}
use Rattle.ld_graph.specs.Inner.Trails.{PlainTrail, no_frame, stage_at, next_at, wait_at, frame_at, IsLimit, IsHandled}
use Rattle.ld_graph.specs.Inner.Trails.{IsFrame, AreStages, AreClosed, IsTrail, entered}
use Rattle.ld_graph.proofs.NearLemmas.{within_of}
use Rattle.ld_graph.proofs.WalkLemmas.{Far, IsWalk-Far, HasWalk-Far}

-- two walks, one after the other
module _ (near : ℕ → ℕ → Type 0) where
  Far-append : (n m a b c : ℕ) → Far near n a b → Far near m b c → (k : ℕ) × Far near k a c
  Far-append zero m a b c h g = (suc m, (b, (h, g)))
  Far-append (suc n) m a b c h g =
      let r = Far-append n m h.0 b c h.1.1 g in (suc r.0, (h.0, (h.1.0, r.1)))

  pub reaches-on : (a b c : ℕ) → IsOrReaches near a b → IsOrReaches near b c → IsOrReaches near a c
  reaches-on a b c (inl e) h = subst (λ z. IsOrReaches near z c) (sym e) h
  reaches-on a b c (inr w) (inl e) = inr (subst (HasWalk near a) e w)
  reaches-on a b c (inr w) (inr v) =
      let f = IsWalk-Far near a b w.0 w.1 in
      let g = IsWalk-Far near b c v.0 v.1 in
      let r = Far-append f.0 g.0 a b c f.1.1 g.1.1 in
      inr (HasWalk-Far near r.0 a c r.1)

  -- two classes that lead to each other are in one component
  pub are_together : (a b : ℕ) → IsOrReaches near a b → IsOrReaches near b a → AreTogether near a b
  are_together a b (inl e) h = inl e
  are_together a b (inr w) (inl e) = inl (sym e)
  are_together a b (inr w) (inr v) = inr (w, v)

  -- what no step leads out of no walk leads out of
  module _ (P : ℕ → Type 0) (closed : (x y : ℕ) → P x → near x y → P y) where
    Far-within : (n a b : ℕ) → P a → Far near n a b → P b
    Far-within zero a b p h = closed a b p h
    Far-within (suc n) a b p h = Far-within n h.0 b (closed a h.0 p h.1.0) h.1.1

    pub reaches-within : (a b : ℕ) → P a → IsOrReaches near a b → P b
    reaches-within a b p (inl e) = subst P e p
    reaches-within a b p (inr w) =
        let f = IsWalk-Far near a b w.0 w.1 in Far-within f.0 a b p f.1.1

-- a class that waits is one of those that have a stage
pub waits_within : (t : PlainTrail) (x i : ℕ) → stage_at t x ≡ Open i → x < length t.stages
waits_within t x i e = within_of t.stages x Fresh (λ n. let f : stage_at t x ≡ Fresh = n in cc)

pub same_place : (i j : ℕ) → Open i ≡ Open j → i ≡ j
same_place i j e = cc

pub same_class : (r s : ℕ) → Closed r ≡ Closed s → r ≡ s
same_class r s e = cc

module _ (lists : List (List ℕ)) where
  abbrev R : ℕ → ℕ → Type 0
  R a b = IsOrReaches (IsNear lists) a b

  pub closed-same : (t s : PlainTrail) → AreClosed lists t
      → ((y r : ℕ) → stage_at t y ≡ Closed r → stage_at s y ≡ Closed r)
      → ((y r : ℕ) → stage_at s y ≡ Closed r → stage_at t y ≡ Closed r) → AreClosed lists s
  closed-same t s h to back = record {
    sound = λ x r e. h.sound x r (back x r e);
    whole = λ x y r e a b. to y r (h.whole x y r (back x r e) a b);
    ahead = λ x y r e n. let q = h.ahead x y r (back x r e) n in (q.0, to y q.0 q.1);
  }

  pub frame-kept : (t s : PlainTrail) (limit : ℕ) (f : Frame) → IsFrame lists t limit f
      → limit ≤ length s.waiting
      → ((j : ℕ) → j < limit → wait_at s j ≡ wait_at t j)
      → ((j : ℕ) → f.position ≤ j → j < length s.waiting → R f.class (wait_at s j))
      → ((y : ℕ) → IsHandled t f.low y → IsHandled s f.low y)
      → ((j : ℕ) → j < limit → next_at s (wait_at t j) ≡ next_at t (wait_at t j))
      → IsFrame lists s limit f
  frame-kept t s limit f h within same ahead handled nexts = record {
    starts = h.starts;
    within = within;
    falls = h.falls;
    class = same f.position h.starts ∙ h.class;
    walk = let a = h.falls in let b = h.starts in subst (λ z. R f.class z) (sym (same f.low (omega arith))) h.walk;
    back = λ j b. subst (λ x. R x f.class) (sym (same j b)) (h.back j b);
    ahead = ahead;
    handled = λ j a b n. subst (λ x. n < next_at s x → n < length (list_at lists x)
        → IsHandled s f.low (get_or (list_at lists x) n 0)) (sym (same j b))
        (λ c d. handled (get_or (list_at lists (wait_at t j)) n 0) (h.handled j a b n (subst (λ z. n < z) (nexts j b) c) d));
    finished = λ j a b. subst (λ x. length (list_at lists x) ≤ next_at s x) (sym (same j b))
        (let e = nexts j b in let l = h.finished j a b in omega (arith, e, l));
  }

  pub limit_is : (t : PlainTrail) (k : ℕ) → k < length t.path → (limit : ℕ) × IsLimit t k limit
  limit_is t k b = elim (cases_lt (k + 1) (length t.path)) [
    | inl l ↦ ((frame_at t (k + 1)).position, inl (l, refl))
    | inr l ↦ (length t.waiting, inr (omega arith, refl))
  ]

  module _ (t : PlainTrail) (h : IsTrail lists t) where
    pub position_below : (k : ℕ) → k < length t.path → (frame_at t k).position < length t.waiting
    position_below k b =
        let l = limit_is t k b in let f = h.frames k l.0 l.1 in
        let s = f.starts in let w = f.within in omega (arith, s, w)

    -- no class waits twice
    pub waits_once : (i j : ℕ) → i < length t.waiting → j < length t.waiting → wait_at t i ≡ wait_at t j → i ≡ j
    waits_once i j a b e =
        same_place i j (sym (h.stages.at i a) ∙ ap (λ z. stage_at t z) e ∙ h.stages.at j b)

    -- a class is met
    module _ (x : ℕ) (within : x < length lists) (fresh : stage_at t x ≡ Fresh)
        (lead : (j : ℕ) → j < length t.waiting → R (wait_at t j) x) where
      stage_here : stage_at (entered t x) x ≡ Open (length t.waiting)
      stage_here = let l = h.stages_len in get_or-set_same t.stages x (Open (length t.waiting)) Fresh (omega (arith, l))

      stage_else : (y : ℕ) → y ≢ x → stage_at (entered t x) y ≡ stage_at t y
      stage_else y ne = get_or-set_other t.stages x y (Open (length t.waiting)) Fresh ne

      wait_old : (j : ℕ) → j < length t.waiting → wait_at (entered t x) j ≡ wait_at t j
      wait_old j b = get_or_append_left t.waiting (x ∷ []) 0 j b

      wait_new : (j : ℕ) → length t.waiting ≡ j → wait_at (entered t x) j ≡ x
      wait_new j e = get_or_push t.waiting x 0 j e

      wait_len : length (t.waiting ++ x ∷ []) ≡ length t.waiting + 1
      wait_len = length_push t.waiting x

      abbrev made : Frame
      made = record { class = x; position = length t.waiting; low = length t.waiting }

      frame_old : (k : ℕ) → k < length t.path → frame_at (entered t x) k ≡ frame_at t k
      frame_old k b = get_or_append_left t.path (made ∷ []) no_frame k b

      frame_new : (k : ℕ) → length t.path ≡ k → frame_at (entered t x) k ≡ made
      frame_new k e = get_or_push t.path made no_frame k e

      path_len : length (t.path ++ made ∷ []) ≡ length t.path + 1
      path_len = length_push t.path made

      kept_closed : (y r : ℕ) → stage_at t y ≡ Closed r → stage_at (entered t x) y ≡ Closed r
      kept_closed y r e = elim (cases_eq y x) [
        | inl s ↦ let f : stage_at t y ≡ Fresh = ap (λ z. stage_at t z) s ∙ fresh in cc
        | inr s ↦ stage_else y s ∙ e
      ]

      back_closed : (y r : ℕ) → stage_at (entered t x) y ≡ Closed r → stage_at t y ≡ Closed r
      back_closed y r e = elim (cases_eq y x) [
        | inl s ↦ let f : stage_at (entered t x) y ≡ Open (length t.waiting) = ap (λ z. stage_at (entered t x) z) s ∙ stage_here in cc
        | inr s ↦ sym (stage_else y s) ∙ e
      ]

      entered_stages : AreStages lists (entered t x)
      entered_stages = record { at = at; back = back; fresh = no_nexts }
        where
          at : (i : ℕ) → i < length (t.waiting ++ x ∷ []) → stage_at (entered t x) (wait_at (entered t x) i) ≡ Open i
          at i b = elim (cases_lt i (length t.waiting)) [
            | inl l ↦ elim (cases_eq (wait_at t i) x) [
              | inl e ↦ let f : stage_at t (wait_at t i) ≡ Fresh = ap (λ z. stage_at t z) e ∙ fresh in
                  let g = h.stages.at i l in cc
              | inr ne ↦ ap (λ z. stage_at (entered t x) z) (wait_old i l) ∙ stage_else (wait_at t i) ne ∙ h.stages.at i l
            ]
            | inr l ↦ let e : length t.waiting ≡ i = (let p = wait_len in omega (arith, p)) in
                ap (λ z. stage_at (entered t x) z) (wait_new i e) ∙ stage_here ∙ ap (λ z. Open z) e
          ]

          back : (y i : ℕ) → stage_at (entered t x) y ≡ Open i → (i < length (t.waiting ++ x ∷ [])) × (wait_at (entered t x) i ≡ y)
          back y i e = elim (cases_eq y x) [
            | inl s ↦
                let p : length t.waiting ≡ i = same_place (length t.waiting) i (sym stage_here ∙ ap (λ z. stage_at (entered t x) z) (sym s) ∙ e) in
                let q = wait_len in
                (omega (arith, p, q), wait_new i p ∙ sym s)
            | inr s ↦
                let p = h.stages.back y i (sym (stage_else y s) ∙ e) in let l = p.0 in let q = wait_len in
                (omega (arith, l, q), wait_old i l ∙ p.1)
          ]

          no_nexts : (y : ℕ) → stage_at (entered t x) y ≡ Fresh → next_at t y ≡ 0
          no_nexts y e = elim (cases_eq y x) [
            | inl s ↦ let f : stage_at (entered t x) y ≡ Open (length t.waiting) = ap (λ z. stage_at (entered t x) z) s ∙ stage_here in cc
            | inr s ↦ h.stages.fresh y (sym (stage_else y s) ∙ e)
          ]

      made_frame : (limit : ℕ) → limit ≡ length t.waiting + 1 → IsFrame lists (entered t x) limit made
      made_frame limit e = record {
        starts = omega (arith, e);
        within = let p = wait_len in omega (arith, e, p);
        falls = omega arith;
        class = wait_new (length t.waiting) refl;
        walk = inl (sym (wait_new (length t.waiting) refl));
        back = λ j b. by j b (cases_lt j (length t.waiting));
        ahead = λ j a b. let p = wait_len in inl (sym (wait_new j (omega (arith, p))));
        handled = λ j a b n c. absurd (let p : wait_at (entered t x) j ≡ x = wait_new j (omega (arith, e)) in
            let q : next_at t (wait_at (entered t x) j) ≡ 0 = ap (λ z. next_at t z) p ∙ h.stages.fresh x fresh in
            omega (arith, q, c));
        finished = λ j a b. absurd (omega (arith, e));
      }
        where
          by : (j : ℕ) → j < limit → (j < length t.waiting) ⊎ (length t.waiting ≤ j) → R (wait_at (entered t x) j) x
          by j b (inl l) = subst (λ z. R z x) (sym (wait_old j l)) (lead j l)
          by j b (inr l) = inl (wait_new j (omega (arith, e)))

      old_frame : (k limit : ℕ) → k < length t.path → IsLimit t k limit → IsFrame lists (entered t x) limit (frame_at (entered t x) k)
      old_frame k limit b is =
          let f = h.frames k limit is in
          let s = f.starts in let w = f.within in let p = wait_len in
          subst (IsFrame lists (entered t x) limit) (sym (frame_old k b))
          (frame-kept t (entered t x) limit (frame_at t k) f (omega (arith, w, p))
          (λ j c. wait_old j (omega (arith, w))) (λ j a c. ahead f j a c (cases_lt j (length t.waiting)))
          (λ y g. handled (frame_at t k).low y g) (λ j c. refl))
        where
          ahead : (f : IsFrame lists t limit (frame_at t k)) (j : ℕ) → (frame_at t k).position ≤ j → j < length (t.waiting ++ x ∷ [])
              → (j < length t.waiting) ⊎ (length t.waiting ≤ j) → R (frame_at t k).class (wait_at (entered t x) j)
          ahead f j a c (inl l) = subst (λ z. R (frame_at t k).class z) (sym (wait_old j l)) (f.ahead j a l)
          ahead f j a c (inr l) =
              let p = wait_len in let s = f.starts in let w = f.within in
              subst (λ z. R (frame_at t k).class z) (sym (wait_new j (omega (arith, p))))
              (subst (λ z. R z x) f.class (lead (frame_at t k).position (omega (arith, s, w))))

          handled : (low y : ℕ) → IsHandled t low y → IsHandled (entered t x) low y
          handled low y (inl c) = inl (c.0, kept_closed y c.0 c.1)
          handled low y (inr c) = let l = c.1.1.0 in let p = wait_len in
              inr (c.0, (c.1.0, (omega (arith, l, p), wait_old c.0 l ∙ c.1.1.1)))

      entered_frames : (k limit : ℕ) → IsLimit (entered t x) k limit → IsFrame lists (entered t x) limit (frame_at (entered t x) k)
      entered_frames k limit (inl is) = elim (cases_lt (k + 1) (length t.path)) [
        | inl l ↦ old_frame k limit (omega arith) (inl (l, is.1 ∙ ap (λ f. f.position) (frame_old (k + 1) l)))
        | inr l ↦
            let p = path_len in let a = is.0 in
            let e : k + 1 ≡ length t.path = omega (arith, p, a) in
            old_frame k limit (omega (arith, e)) (inr (e, is.1 ∙ ap (λ f. f.position) (frame_new (k + 1) (sym e))))
      ]
      entered_frames k limit (inr is) =
          let p = path_len in let a = is.0 in let q = wait_len in let b = is.1 in
          let e : length t.path ≡ k = omega (arith, p, a) in
          subst (IsFrame lists (entered t x) limit) (sym (frame_new k e)) (made_frame limit (omega (arith, q, b)))

      entered_rising : (k l : ℕ) → k < l → l < length (t.path ++ made ∷ []) → (frame_at (entered t x) k).position < (frame_at (entered t x) l).position
      entered_rising k l a b = elim (cases_lt l (length t.path)) [
        | inl c ↦ rw (frame_old k (omega arith), frame_old l c) (h.rising k l a c)
        | inr c ↦
            let p = path_len in let e : length t.path ≡ l = omega (arith, p) in
            rw (frame_old k (omega (arith, e)), frame_new l e) (position_below k (omega (arith, e)))
      ]

      entered_first : 0 < length (t.path ++ made ∷ []) → (frame_at (entered t x) 0).position ≡ 0
      entered_first b = elim (cases_lt 0 (length t.path)) [
        | inl c ↦ ap (λ f. f.position) (frame_old 0 c) ∙ h.first c
        | inr c ↦ let e : length t.path ≡ 0 = omega arith in ap (λ f. f.position) (frame_new 0 e) ∙ h.none e
      ]

      pub entered-is : IsTrail lists (entered t x)
      entered-is = record {
        stages_len = length-set t.stages x (Open (length t.waiting)) ∙ h.stages_len;
        nexts_len = h.nexts_len;
        stages = entered_stages;
        closed = closed-same t (entered t x) h.closed kept_closed back_closed;
        frames = entered_frames;
        rising = entered_rising;
        first = entered_first;
        none = λ e. absurd (let p = path_len in omega (arith, p, e));
      }
