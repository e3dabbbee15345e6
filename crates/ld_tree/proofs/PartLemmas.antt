-- A tree that grows class by class.
use Rattle.std.proofs.Common.{◌≡◌, ◌≢◌, ◌⊎◌, inl, inr, ℕ, zero, suc, ◌+◌, ◌<◌, ◌≤◌, List, [], ◌∷◌, ◌++◌, Option, Some, None, Contains, length, get_or, set, arith, refl, sym, ap, subst, ◌∙◌}
use Rattle.std.proofs.lemmas.Bool.{cases_lt}
use Rattle.std.proofs.lemmas.List.{get_or_append_left, get_or_default, get_or_push, length_push, get_or-set_same, get_or-set_other}
use Rattle.std.proofs.lemmas.List.Elements.{Contains-append_left, Contains-push_cases}
use Rattle.ld_graph.specs.Edges.{ComesBefore}
use Rattle.ld_graph.specs.Touched.{AreTouched}
use Rattle.ld_graph.specs.Lists.{IsNear, list_at}
use Rattle.ld_tree.specs.Inner.{IsPart}
use Rattle.ld_tree.specs.Trees.{AreInOrder, IsTreeOf, PlainLeading, class_at_place, nth}

-- places that were there are kept
pub place_kept : (start : ℕ) (found : List ℕ) (x p : ℕ) → p ≤ length found → class_at_place start (found ++ x ∷ []) p ≡ class_at_place start found p
place_kept start found x zero l = refl
place_kept start found x (suc j) l = get_or_append_left found (x ∷ []) 0 j (omega arith)

-- the class that was found as number j is at the place behind it
pub place_after : (start : ℕ) (found : List ℕ) (j : ℕ) → class_at_place start found (j + 1) ≡ nth found j
place_after start found j = let e : j + 1 ≡ suc j = omega arith in ap (class_at_place start found) e

-- a class that is found without a number yet
pub touched_found : (numbers : List (Option ℕ)) (found : List ℕ) (x : ℕ) → x < length numbers → AreTouched numbers found → AreTouched numbers (found ++ x ∷ [])
touched_found numbers found x within h = record {
  within = λ y m. by y (Contains-push_cases found x y m);
  all = λ y k e. Contains-append_left found (x ∷ []) y (h.all y k e);
}
  where
    by : (y : ℕ) → Contains found y ⊎ (x ≡ y) → y < length numbers
    by y (inl m) = h.within y m
    by y (inr e) = omega arith

module _ (leading : PlainLeading) (start done : ℕ) (near : List ℕ) (read : ℕ) (found from : List ℕ) (numbers : List (Option ℕ))
    (part : IsPart leading start done near read found from numbers) where
  -- a class that was found already
  pub part_pass : AreTouched numbers found → (x : ℕ) → x ≡ nth near read → get_or numbers x None ≢ None → IsPart leading start done near (read + 1) found from numbers
  part_pass touched x is some = record {
    same = part.same;
    up = part.up;
    last = part.last;
    edge = part.edge;
    rising = part.rising;
    least = part.least;
    closed = part.closed;
    here = λ k l. by k (cases_lt k read) l;
    fresh = λ j l e. let f = part.fresh j l e in let b = f.1.0 in (f.0, (omega (arith, b), f.1.1));
    numbered = part.numbered;
  }
    where
      there : (o : Option ℕ) → get_or numbers x None ≡ o → get_or numbers x None ≢ None → Contains found x
      there None e some = absurd (some e)
      there (Some k) e some = touched.all x k e

      by : (k : ℕ) → (k < read) ⊎ (read ≤ k) → k < read + 1 → (j : ℕ) × ((j < length found) × (nth found j ≡ nth near k))
      by k (inl less) l = part.here k less
      by k (inr past) l =
          let c = there (get_or numbers x None) refl some in
          let at = c.1 in
          let same : read ≡ k = omega arith in
          (c.0, (at, get_or_default found c.0 0 x at ∙ c.2 ∙ is ∙ ap (nth near) same))

  -- and one that wasn't
  module _ (x : ℕ) (is : x ≡ nth near read) (within : read < length near) (step : IsNear leading.lists (class_at_place start found done) x)
      (order : AreInOrder leading.places near) (done_found : done ≤ length found) (below : x < length numbers) (free : get_or numbers x None ≡ None) where
    abbrev found' : List ℕ
    found' = found ++ x ∷ []

    abbrev from' : List ℕ
    from' = from ++ done ∷ []

    abbrev numbers' : List (Option ℕ)
    numbers' = set numbers x (Some (length found))

    longer : length found' ≡ length found + 1
    longer = length_push found x

    old_found : (j : ℕ) → j < length found → nth found' j ≡ nth found j
    old_found j l = get_or_append_left found (x ∷ []) 0 j l

    old_from : (j : ℕ) → j < length found → nth from' j ≡ nth from j
    old_from j l = get_or_append_left from (done ∷ []) 0 j (omega (arith, l, part.same))

    new_found : (j : ℕ) → length found ≡ j → nth found' j ≡ x
    new_found j e = get_or_push found x 0 j e

    new_from : (j : ℕ) → length found ≡ j → nth from' j ≡ done
    new_from j e = get_or_push from done 0 j (part.same ∙ e)

    old_place : (p : ℕ) → p ≤ length found → class_at_place start found' p ≡ class_at_place start found p
    old_place p l = place_kept start found x p l

    cases : (j : ℕ) → j < length found' → (j < length found) ⊎ (length found ≡ j)
    cases j l = by (cases_lt j (length found))
      where
        by : (j < length found) ⊎ (length found ≤ j) → (j < length found) ⊎ (length found ≡ j)
        by (inl less) = inl less
        by (inr past) = inr (omega (arith, past, l, longer))

    apart : (j : ℕ) → j < length found → nth found j ≢ x
    apart j l e = let f : Some j ≡ None = sym (part.numbered j l) ∙ ap (λ z. get_or numbers z None) e ∙ free in cc

    up : (j : ℕ) → (j < length found) ⊎ (length found ≡ j) → nth from' j ≤ j
    up j (inl l) = let u = part.up j l in let o = old_from j l in omega (arith, u, o)
    up j (inr e) = let n = new_from j e in omega (arith, n, e, done_found)

    last : (j : ℕ) → (j < length found) ⊎ (length found ≡ j) → nth from' j ≤ done
    last j (inl l) = let u = part.last j l in let o = old_from j l in omega (arith, u, o)
    last j (inr e) = let n = new_from j e in omega (arith, n)

    edge : (j : ℕ) → (j < length found) ⊎ (length found ≡ j) → IsNear leading.lists (class_at_place start found' (nth from' j)) (nth found' j)
    edge j (inl l) =
        let u = part.up j l in
        let same : class_at_place start found' (nth from' j) ≡ class_at_place start found (nth from j) = ap (class_at_place start found') (old_from j l) ∙ old_place (nth from j) (omega (arith, u, l)) in
        subst (λ a. IsNear leading.lists a (nth found' j)) (sym same) (subst (IsNear leading.lists (class_at_place start found (nth from j))) (sym (old_found j l)) (part.edge j l))
    edge j (inr e) =
        let same : class_at_place start found' (nth from' j) ≡ class_at_place start found done = ap (class_at_place start found') (new_from j e) ∙ old_place done done_found in
        subst (λ a. IsNear leading.lists a (nth found' j)) (sym same) (subst (IsNear leading.lists (class_at_place start found done)) (sym (new_found j e)) step)

    rising : (i j : ℕ) → i < j → (j < length found) ⊎ (length found ≡ j) → nth from' i ≤ nth from' j
    rising i j less (inl l) =
        let r = part.rising i j less l in let a = old_from i (omega (arith, less, l)) in let b = old_from j l in omega (arith, r, a, b)
    rising i j less (inr e) =
        let r = part.last i (omega (arith, less, e)) in let a = old_from i (omega (arith, less, e)) in let b = new_from j e in omega (arith, r, a, b)

    least : (i j : ℕ) → i < j → (j < length found) ⊎ (length found ≡ j) → nth from' i ≡ nth from' j → ComesBefore leading.places (nth found' i) (nth found' j)
    least i j less (inl l) e =
        let low : i < length found = omega (arith, less, l) in
        subst (λ a. ComesBefore leading.places a (nth found' j)) (sym (old_found i low)) (subst (ComesBefore leading.places (nth found i)) (sym (old_found j l))
        (part.least i j less l (sym (old_from i low) ∙ e ∙ old_from j l)))
    least i j less (inr at) e =
        let low : i < length found = omega (arith, less, at) in
        let f = part.fresh i low (sym (old_from i low) ∙ e ∙ new_from j at) in
        let b = f.1.0 in
        subst (λ a. ComesBefore leading.places a (nth found' j)) (f.1.1 ∙ sym (old_found i low))
        (subst (ComesBefore leading.places (nth near f.0)) (sym (new_found j at ∙ is)) (order f.0 read b within))

    later : (y : ℕ) → (j : ℕ) → j < length found → nth found j ≡ y → (nth found' j ≡ y)
    later y j l e = old_found j l ∙ e

    pub part_push : IsPart leading start done near (read + 1) found' from' numbers'
    part_push = record {
      same = let p = length_push from done in omega (arith, p, longer, part.same);
      up = λ j l. up j (cases j l);
      last = λ j l. last j (cases j l);
      edge = λ j l. edge j (cases j l);
      rising = λ i j less l. rising i j less (cases j l);
      least = λ i j less l e. least i j less (cases j l) e;
      closed = λ p y low s.
          let c = part.closed p y low (subst (λ a. IsNear leading.lists a y) (old_place p (omega (arith, low, done_found))) s) in
          let b = c.1.0 in let o = old_from c.0 b in let f = c.1.1.1 in
          (c.0, (omega (arith, b, longer), (later y c.0 b c.1.1.0, omega (arith, o, f))));
      here = λ k l. here k (cases_lt k read) l;
      fresh = λ j l e. fresh j (cases j l) e;
      numbered = λ j l. numbered j (cases j l);
    }
      where
        here : (k : ℕ) → (k < read) ⊎ (read ≤ k) → k < read + 1 → (j : ℕ) × ((j < length found') × (nth found' j ≡ nth near k))
        here k (inl less) l = let h = part.here k less in let b = h.1.0 in (h.0, (omega (arith, b, longer), later (nth near k) h.0 b h.1.1))
        here k (inr past) l =
            let same : read ≡ k = omega arith in
            (length found, (omega (arith, longer), new_found (length found) refl ∙ is ∙ ap (nth near) same))

        fresh : (j : ℕ) → (j < length found) ⊎ (length found ≡ j) → nth from' j ≡ done → (k : ℕ) × ((k < read + 1) × (nth near k ≡ nth found' j))
        fresh j (inl l) e = let f = part.fresh j l (sym (old_from j l) ∙ e) in let b = f.1.0 in (f.0, (omega (arith, b), f.1.1 ∙ sym (old_found j l)))
        fresh j (inr at) e = (read, (omega arith, sym (new_found j at ∙ is)))

        numbered : (j : ℕ) → (j < length found) ⊎ (length found ≡ j) → get_or numbers' (nth found' j) None ≡ Some j
        numbered j (inl l) =
            ap (λ z. get_or numbers' z None) (old_found j l) ∙ get_or-set_other numbers x (nth found j) (Some (length found)) None (apart j l) ∙ part.numbered j l
        numbered j (inr at) =
            ap (λ z. get_or numbers' z None) (new_found j at) ∙ get_or-set_same numbers x (Some (length found)) None below ∙ ap Some at

module _ (leading : PlainLeading) (start done : ℕ) (near : List ℕ) (found from : List ℕ) (numbers : List (Option ℕ)) where
  -- which successors of the next place there are matters once they are read
  pub part_near : (some : List ℕ) → IsPart leading start done some 0 found from numbers → IsPart leading start done near 0 found from numbers
  part_near some part = record {
    same = part.same;
    up = part.up;
    last = part.last;
    edge = part.edge;
    rising = part.rising;
    least = part.least;
    closed = part.closed;
    here = λ k l. absurd (omega (arith, l));
    fresh = λ j l e. let f = part.fresh j l e in let b = f.1.0 in absurd (omega (arith, b));
    numbered = part.numbered;
  }

  -- all successors of a place were read
  pub part_next : near ≡ list_at leading.lists (class_at_place start found done) → IsPart leading start done near (length near) found from numbers
      → IsPart leading start (done + 1) [] 0 found from numbers
  part_next is part = record {
    same = part.same;
    up = part.up;
    last = λ j l. let p = part.last j l in omega (arith, p);
    edge = part.edge;
    rising = part.rising;
    least = part.least;
    closed = λ p y low s. closed p y low s (cases_lt p done);
    here = λ k l. absurd (omega (arith, l));
    fresh = λ j l e. let p = part.last j l in absurd (omega (arith, p, e));
    numbered = part.numbered;
  }
    where
      closed : (p y : ℕ) → p < done + 1 → IsNear leading.lists (class_at_place start found p) y → (p < done) ⊎ (done ≤ p)
          → (j : ℕ) × ((j < length found) × ((nth found j ≡ y) × (nth from j ≤ p)))
      closed p y low s (inl less) = part.closed p y less s
      closed p y low s (inr past) =
          let same : p ≡ done = omega arith in
          let c = subst (λ l. Contains l y) (sym is) (subst (λ q. IsNear leading.lists (class_at_place start found q) y) same s) in
          let b = c.1 in
          let h = part.here c.0 b in
          let at_h = h.1.0 in
          let l = part.last h.0 at_h in
          (h.0, (at_h, (h.1.1 ∙ get_or_default near c.0 0 y b ∙ c.2, omega (arith, l, past))))

  -- and all places were gone on from
  pub part_end : length found ≤ done → IsPart leading start (done + 1) [] 0 found from numbers → IsTreeOf leading start (record { found = found; from = from; numbers = numbers })
  part_end all part = record {
    same = part.same;
    walks = record {
      up = part.up;
      edge = part.edge;
      rising = part.rising;
      least = part.least;
      closed = λ p y low s. part.closed p y (omega (arith, low, all)) s;
      once = λ i j at_i at_j e.
          let f : Some i ≡ Some j = sym (part.numbered i at_i) ∙ ap (λ z. get_or numbers z None) e ∙ part.numbered j at_j in cc;
    };
    numbered = part.numbered;
  }

-- nothing was found yet
pub part_begin : (leading : PlainLeading) (start : ℕ) (near found from : List ℕ) (numbers : List (Option ℕ)) → found ≡ [] → from ≡ [] → IsPart leading start 0 near 0 found from numbers
part_begin leading start near found from numbers none also = record {
  same = ap length also ∙ sym (ap length none);
  up = λ j l. absurd (empty j l);
  last = λ j l. absurd (empty j l);
  edge = λ j l. absurd (empty j l);
  rising = λ i j less l. absurd (empty j l);
  least = λ i j less l e. absurd (empty j l);
  closed = λ p y low s. absurd (omega (arith, low));
  here = λ k l. absurd (omega (arith, l));
  fresh = λ j l e. absurd (empty j l);
  numbered = λ j l. absurd (empty j l);
}
  where
    empty : (j : ℕ) → j < length found → ⊥
    empty j l = let e : length found ≡ 0 = ap length none in omega (arith, l, e)
