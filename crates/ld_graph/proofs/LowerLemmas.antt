-- How the search for components takes note of a successor, and how it goes back to the frame before.
use Rattle.std.proofs.Common.{◌≡◌, ◌≢◌, ℕ, ◌+◌, ◌-◌, ◌<◌, ◌≤◌, ◌⊎◌, inl, inr}
use Rattle.std.proofs.Common.{List, length, get_or, set, take, arith}
use Rattle.std.proofs.Common.{refl, sym, ap, subst, ◌∙◌}
use Rattle.std.proofs.lemmas.Bool.{cases_lt, cases_eq}
use Rattle.std.proofs.lemmas.List.{get_or-set_same, get_or-set_other, get_or-take, length-set, length-take-le}
use Rattle.ld_graph.specs.declared.trail.Stage.TheVariants.{Open}
use Rattle.ld_graph.specs.declared.trail.Frame.{Frame}
use Rattle.ld_graph.specs.Lists.{IsNear, list_at}
use Rattle.ld_graph.specs.Inner.Repairs.{IsOrReaches}
use Rattle.ld_graph.specs.Inner.Trails.{PlainTrail, no_frame, stage_at, next_at, wait_at, frame_at, IsLimit, IsHandled}
use Rattle.ld_graph.specs.Inner.Trails.{IsFrame, IsTrail, last_of, top_of, lowered, advanced, returned}
use Rattle.ld_graph.proofs.TrailLemmas.{reaches-on, waits_within, frame-kept, waits_once}
use Rattle.ld_graph.proofs.TrailLemmas.{closed-same}

module _ (lists : List (List ℕ)) (t : PlainTrail) (h : IsTrail lists t) (some : 0 < length t.path) where
  abbrev R : ℕ → ℕ → Type 0
  R a b = IsOrReaches (IsNear lists) a b

  abbrev last : ℕ
  last = last_of t

  abbrev top : Frame
  top = top_of t

  pub top_frame : IsFrame lists t (length t.waiting) top
  top_frame = h.frames last (length t.waiting) (inr (omega arith, refl))

  pub limit_low : (k limit : ℕ) → IsLimit t k limit → k < last → limit ≤ top.position
  limit_low k limit (inl is) b = elim (cases_eq (k + 1) last) [
    | inl e ↦ let p : limit ≡ top.position = is.1 ∙ ap (λ z. (frame_at t z).position) e in omega (arith, p)
    | inr ne ↦ let r = h.rising (k + 1) last (omega (arith, ne)) (omega arith) in let p = is.1 in omega (arith, r, p)
  ]
  limit_low k limit (inr is) b = absurd (let a = is.0 in omega (arith, a))

  pub top_waits : stage_at t top.class ≡ Open top.position
  top_waits =
      let s = top_frame.starts in
      ap (λ z. stage_at t z) (sym top_frame.class) ∙ h.stages.at top.position (omega (arith, s))

  -- another class waits before the last frame
  pub else_waits : (j : ℕ) → j < top.position → wait_at t j ≢ top.class
  else_waits j b e =
      let s = top_frame.starts in
      let i = waits_once lists t h j top.position (omega (arith, s)) s (e ∙ sym top_frame.class) in
      omega (arith, i)

  pub top_within : top.class < length lists
  top_within = let l = waits_within t top.class top.position top_waits in let e = h.stages_len in omega (arith, l, e)

  -- the last frame isn't the first one where a walk from it leads back
  pub has_parent : top.low < top.position → 0 < last
  has_parent below =
      let p : last ≡ 0 → top.position ≡ 0 = λ e. ap (λ z. (frame_at t z).position) e ∙ h.first some in grind (arith, p, below)

  -- a successor is looked at
  module _ (low : ℕ) (more : next_at t top.class < length (list_at lists top.class)) (less : low ≤ top.low)
      (handled : IsHandled t low (get_or (list_at lists top.class) (next_at t top.class) 0))
      (walk : R top.class (wait_at t low)) where
    next_here : next_at (advanced t low) top.class ≡ next_at t top.class + 1
    next_here = let a = top_within in let b = h.nexts_len in
        get_or-set_same t.nexts top.class (next_at t top.class + 1) 0 (omega (arith, a, b))

    next_else : (x : ℕ) → x ≢ top.class → next_at (advanced t low) x ≡ next_at t x
    next_else x ne = get_or-set_other t.nexts top.class x (next_at t top.class + 1) 0 ne

    next_more : (x : ℕ) → next_at t x ≤ next_at (advanced t low) x
    next_more x = elim (cases_eq x top.class) [
      | inl e ↦ let a = ap (λ z. next_at (advanced t low) z) e ∙ next_here in let b = ap (λ z. next_at t z) e in omega (arith, a, b)
      | inr ne ↦ let a = next_else x ne in omega (arith, a)
    ]

    frame_here : frame_at (advanced t low) last ≡ lowered top low
    frame_here = get_or-set_same t.path last (lowered top low) no_frame (omega arith)

    frame_else : (k : ℕ) → k ≢ last → frame_at (advanced t low) k ≡ frame_at t k
    frame_else k ne = get_or-set_other t.path last k (lowered top low) no_frame ne

    same_position : (k : ℕ) → (frame_at (advanced t low) k).position ≡ (frame_at t k).position
    same_position k = elim (cases_eq k last) [
      | inl e ↦ ap (λ z. (frame_at (advanced t low) z).position) e ∙ ap (λ f. f.position) frame_here ∙ ap (λ z. (frame_at t z).position) (sym e)
      | inr ne ↦ ap (λ f. f.position) (frame_else k ne)
    ]

    path_len : length (set t.path last (lowered top low)) ≡ length t.path
    path_len = length-set t.path last (lowered top low)

    limit_back : (k limit : ℕ) → IsLimit (advanced t low) k limit → IsLimit t k limit
    limit_back k limit (inl is) = let p = path_len in let a = is.0 in inl (omega (arith, p, a), is.1 ∙ same_position (k + 1))
    limit_back k limit (inr is) = let p = path_len in let a = is.0 in inr (omega (arith, p, a), is.1)

    weaker : (y : ℕ) → IsHandled t top.low y → IsHandled (advanced t low) low y
    weaker y (inl c) = inl c
    weaker y (inr c) = let a = c.1.0 in inr (c.0, (omega (arith, a, less), c.1.1))

    looked : (limit : ℕ) → limit ≡ length t.waiting → IsFrame lists (advanced t low) limit (lowered top low)
    looked limit e =
        let f = top_frame in
        let s = f.starts in let w = f.falls in
        record {
          starts = omega (arith, s, e);
          within = omega (arith, e);
          falls = omega (arith, w, less);
          class = f.class;
          walk = walk;
          back = λ j b. f.back j (omega (arith, e));
          ahead = f.ahead;
          handled = λ j a b n c d. by j a (omega (arith, e)) n d (cases_eq (wait_at t j) top.class) c;
          finished = λ j a b. let m = next_more (wait_at t j) in let g = f.finished j a (omega (arith, e)) in omega (arith, m, g);
        }
      where
        by : (j : ℕ) → top.position ≤ j → j < length t.waiting → (n : ℕ) → n < length (list_at lists (wait_at t j))
            → (wait_at t j ≡ top.class) ⊎ (wait_at t j ≢ top.class) → n < next_at (advanced t low) (wait_at t j)
            → IsHandled (advanced t low) low (get_or (list_at lists (wait_at t j)) n 0)
        by j a b n d (inr ne) c =
            let e = next_else (wait_at t j) ne in
            weaker (get_or (list_at lists (wait_at t j)) n 0) (top_frame.handled j a b n (omega (arith, e, c)) d)
        by j a b n d (inl e) c = here (cases_eq n (next_at t top.class))
          where
            here : (n ≡ next_at t top.class) ⊎ (n ≢ next_at t top.class) → IsHandled (advanced t low) low (get_or (list_at lists (wait_at t j)) n 0)
            here (inl m) = subst (λ z. IsHandled t low (get_or (list_at lists z) n 0)) (sym e)
                (subst (λ z. IsHandled t low (get_or (list_at lists top.class) z 0)) (sym m) handled)
            here (inr ne) =
                let p = ap (λ z. next_at (advanced t low) z) e ∙ next_here in
                let q = ap (λ z. next_at t z) e in
                weaker (get_or (list_at lists (wait_at t j)) n 0) (top_frame.handled j a b n (omega (arith, p, q, c, ne)) d)

    frames : (k limit : ℕ) → IsLimit t k limit → IsFrame lists (advanced t low) limit (frame_at (advanced t low) k)
    frames k limit is = by (cases_eq k last)
      where
        whole : k ≡ last → IsLimit t k limit → limit ≡ length t.waiting
        whole e (inl a) = absurd (let b = a.0 in omega (arith, b, e))
        whole e (inr a) = a.1

        inside : IsLimit t k limit → k < length t.path
        inside (inl a) = let b = a.0 in omega (arith, b)
        inside (inr a) = let b = a.0 in omega (arith, b)

        by : (k ≡ last) ⊎ (k ≢ last) → IsFrame lists (advanced t low) limit (frame_at (advanced t low) k)
        by (inl e) = subst (λ z. IsFrame lists (advanced t low) limit (frame_at (advanced t low) z)) (sym e)
            (subst (IsFrame lists (advanced t low) limit) (sym frame_here) (looked limit (whole e is)))
        by (inr ne) =
            let f = h.frames k limit is in
            let b = limit_low k limit is (let i = inside is in omega (arith, i, ne)) in
            subst (IsFrame lists (advanced t low) limit) (sym (frame_else k ne))
            (frame-kept lists t (advanced t low) limit (frame_at t k) f f.within (λ j c. refl) f.ahead (λ y g. g)
            (λ j c. next_else (wait_at t j) (else_waits j (omega (arith, b)))))

    pub advanced-is : IsTrail lists (advanced t low)
    advanced-is = record {
      stages_len = h.stages_len;
      nexts_len = length-set t.nexts top.class (next_at t top.class + 1) ∙ h.nexts_len;
      stages = record {
        at = h.stages.at;
        back = h.stages.back;
        fresh = λ x e. next_else x (λ s. let a : stage_at t x ≡ Open top.position = ap (λ z. stage_at t z) s ∙ top_waits in cc) ∙ h.stages.fresh x e;
      };
      closed = closed-same lists t (advanced t low) h.closed (λ y r e. e) (λ y r e. e);
      frames = λ k limit is. frames k limit (limit_back k limit is);
      rising = λ k l a b. let p = path_len in rw (same_position k, same_position l) (h.rising k l a (omega (arith, p)));
      first = λ b. same_position 0 ∙ h.first some;
      none = λ e. absurd (let p = path_len in omega (arith, p, e));
    }

  -- the walk goes back
  module _ (low : ℕ) (done : length (list_at lists top.class) ≤ next_at t top.class) (below : top.low < top.position)
      (less : low ≤ top.low) (which : (low ≡ (frame_at t (last - 1)).low) ⊎ (low ≡ top.low))
      (under : low ≤ (frame_at t (last - 1)).low) where
    abbrev prev : ℕ
    prev = last - 1

    abbrev parent : Frame
    parent = frame_at t prev

    parent_frame : IsFrame lists t top.position parent
    parent_frame = let b = has_parent below in let e : prev + 1 ≡ last = omega arith in
        h.frames prev top.position (inl (omega (arith, e), ap (λ z. (frame_at t z).position) (sym e)))

    path_left : length (set (take last t.path) prev (lowered parent low)) ≡ last
    path_left = length-set (take last t.path) prev (lowered parent low) ∙ length-take-le last t.path (omega arith)

    parent_here : frame_at (returned t low) prev ≡ lowered parent low
    parent_here = let b = has_parent below in let l = length-take-le last t.path (omega arith) in
        get_or-set_same (take last t.path) prev (lowered parent low) no_frame (omega (arith, l))

    parent_else : (k : ℕ) → k < last → k ≢ prev → frame_at (returned t low) k ≡ frame_at t k
    parent_else k b ne = get_or-set_other (take last t.path) prev k (lowered parent low) no_frame ne ∙ get_or-take last t.path k no_frame b

    place_kept : (k : ℕ) → k < last → (frame_at (returned t low) k).position ≡ (frame_at t k).position
    place_kept k b = elim (cases_eq k prev) [
      | inl e ↦ ap (λ z. (frame_at (returned t low) z).position) e ∙ ap (λ f. f.position) parent_here ∙ ap (λ z. (frame_at t z).position) (sym e)
      | inr ne ↦ ap (λ f. f.position) (parent_else k b ne)
    ]

    weaker_yet : (old y : ℕ) → low ≤ old → IsHandled t old y → IsHandled (returned t low) low y
    weaker_yet old y l (inl c) = inl c
    weaker_yet old y l (inr c) = let a = c.1.0 in inr (c.0, (omega (arith, a, l), c.1.1))

    to_top : R parent.class top.class
    to_top = let p = parent_frame in let s = p.starts in let f = top_frame in
        subst (λ z. R parent.class z) f.class (p.ahead top.position (omega (arith, s)) f.starts)

    from_top : R top.class parent.class
    from_top = reaches-on (IsNear lists) top.class (wait_at t top.low) parent.class top_frame.walk (parent_frame.back top.low below)

    joined : (limit : ℕ) → limit ≡ length t.waiting → IsFrame lists (returned t low) limit (lowered parent low)
    joined limit e =
        let p = parent_frame in let f = top_frame in
        let a = p.starts in let b = f.starts in let c = p.falls in
        record {
          starts = omega (arith, a, b, e);
          within = omega (arith, e);
          falls = omega (arith, c, under);
          class = p.class;
          walk = to_low which;
          back = λ j l. back j (omega (arith, e)) (cases_lt j top.position);
          ahead = p.ahead;
          handled = λ j l m n. handled j l (omega (arith, e)) n (cases_lt j top.position);
          finished = λ j l m. finished j l (omega (arith, e)) (cases_lt j top.position) (cases_eq j top.position);
        }
      where
        to_low : (low ≡ parent.low) ⊎ (low ≡ top.low) → R parent.class (wait_at t low)
        to_low (inl s) = subst (λ z. R parent.class (wait_at t z)) (sym s) parent_frame.walk
        to_low (inr s) = subst (λ z. R parent.class (wait_at t z)) (sym s)
            (reaches-on (IsNear lists) parent.class top.class (wait_at t top.low) to_top top_frame.walk)

        back : (j : ℕ) → j < length t.waiting → (j < top.position) ⊎ (top.position ≤ j) → R (wait_at t j) parent.class
        back j b (inl l) = parent_frame.back j l
        back j b (inr l) = reaches-on (IsNear lists) (wait_at t j) top.class parent.class (top_frame.back j b) from_top

        handled : (j : ℕ) → parent.position ≤ j → j < length t.waiting → (n : ℕ) → (j < top.position) ⊎ (top.position ≤ j)
            → n < next_at t (wait_at t j) → n < length (list_at lists (wait_at t j))
            → IsHandled (returned t low) low (get_or (list_at lists (wait_at t j)) n 0)
        handled j a b n (inl l) c d = weaker_yet parent.low (get_or (list_at lists (wait_at t j)) n 0) under (parent_frame.handled j a l n c d)
        handled j a b n (inr l) c d = weaker_yet top.low (get_or (list_at lists (wait_at t j)) n 0) less (top_frame.handled j l b n c d)

        finished : (j : ℕ) → parent.position < j → j < length t.waiting → (j < top.position) ⊎ (top.position ≤ j)
            → (j ≡ top.position) ⊎ (j ≢ top.position) → length (list_at lists (wait_at t j)) ≤ next_at t (wait_at t j)
        finished j a b (inl l) w = parent_frame.finished j a l
        finished j a b (inr l) (inl s) = subst (λ z. length (list_at lists z) ≤ next_at t z)
            (sym top_frame.class ∙ ap (λ z. wait_at t z) (sym s)) done
        finished j a b (inr l) (inr ne) = top_frame.finished j (omega (arith, ne)) b

    frames_left : (k limit : ℕ) → IsLimit (returned t low) k limit → IsFrame lists (returned t low) limit (frame_at (returned t low) k)
    frames_left k limit is = by (cases_eq k prev)
      where
        whole : k ≡ prev → IsLimit (returned t low) k limit → limit ≡ length t.waiting
        whole e (inl a) = absurd (let b = a.0 in let p = path_left in let q = has_parent below in omega (arith, b, e, p, q))
        whole e (inr a) = a.1

        earlier : k ≢ prev → IsLimit (returned t low) k limit → IsLimit t k limit
        earlier ne (inl a) = let b = a.0 in let p = path_left in
            inl (omega (arith, b, p), a.1 ∙ place_kept (k + 1) (omega (arith, b, p)))
        earlier ne (inr a) = absurd (let b = a.0 in let p = path_left in omega (arith, b, p, ne))

        inside : IsLimit (returned t low) k limit → k < last
        inside (inl a) = let b = a.0 in let p = path_left in omega (arith, b, p)
        inside (inr a) = let b = a.0 in let p = path_left in omega (arith, b, p)

        by : (k ≡ prev) ⊎ (k ≢ prev) → IsFrame lists (returned t low) limit (frame_at (returned t low) k)
        by (inl e) = subst (λ z. IsFrame lists (returned t low) limit (frame_at (returned t low) z)) (sym e)
            (subst (IsFrame lists (returned t low) limit) (sym parent_here) (joined limit (whole e is)))
        by (inr ne) =
            let f = h.frames k limit (earlier ne is) in
            subst (IsFrame lists (returned t low) limit) (sym (parent_else k (inside is) ne))
            (frame-kept lists t (returned t low) limit (frame_at t k) f f.within (λ j c. refl) f.ahead (λ y g. g) (λ j c. refl))

    pub returned-is : IsTrail lists (returned t low)
    returned-is = record {
      stages_len = h.stages_len;
      nexts_len = h.nexts_len;
      stages = record { at = h.stages.at; back = h.stages.back; fresh = h.stages.fresh };
      closed = closed-same lists t (returned t low) h.closed (λ y r e. e) (λ y r e. e);
      frames = frames_left;
      rising = λ k l a b. let p = path_left in rw (place_kept k (omega (arith, p)), place_kept l (omega (arith, p))) (h.rising k l a (omega (arith, p)));
      first = λ b. place_kept 0 (has_parent below) ∙ h.first some;
      none = λ e. absurd (let p = path_left in let q = has_parent below in omega (arith, p, e, q));
    }
