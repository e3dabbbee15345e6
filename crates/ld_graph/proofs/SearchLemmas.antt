-- A search by levels, with those classes first that wait longest, gives exact distances.
use Rattle.std.proofs.Common.{◌≡◌, ℕ, zero, suc, ◌+◌, ◌<◌, ◌≤◌, ◌⊎◌, inl, inr, List, [], length}
use Rattle.std.proofs.Common.{Contains, get_or, Option, Some, None, arith, refl, sym, ap, subst, ◌∙◌}
use Rattle.std.proofs.lemmas.Bool.{cases_lt}
use Rattle.ld_graph.specs.Walks.{IsDistance, DistanceIs}
use Rattle.ld_graph.specs.Inner.Levels.{level_at, HasLevel, Spreads}
use Rattle.ld_graph.proofs.WalkLemmas.{Far, IsWalk-Far, IsDistance-Far}
use Rattle.std.proofs.lemmas.List.{get_or_default, get_or_read}
use Rattle.std.proofs.lemmas.List.Elements.{Contains-get_or}
use Rattle.ld_graph.specs.Inner.Insides.{AreLevelsFor}
use Rattle.ld_graph.specs.Touched.{AreTouched}
use Rattle.ld_graph.proofs.ShownLemmas.{distance_one}
use Rattle.ld_graph.proofs.SpreadLemmas.{some_same, level_within}

-- what a search knows after it has gone on from the start and from the first `done` classes that
-- waited
pub record IsPartial (near : ℕ → ℕ → Type 0) (start done : ℕ) (levels : List (Option ℕ)) (queue :
    List ℕ) : Type 0 where
  pub sound : (x k : ℕ) → level_at levels x ≡ Some k → (m : ℕ) × ((k ≡ m + 1)
      × Far (λ a b. near b a) m x start)
  pub queued : (i : ℕ) → i < length queue → (k : ℕ) × ((level_at levels (get_or queue i 0) ≡ Some k)
      × (k ≤ i + 1))
  pub covered : (x k : ℕ) → level_at levels x ≡ Some k → (i : ℕ) × ((i < length queue)
      × (get_or queue i 0 ≡ x))
  pub rising : (i j k l : ℕ) → i ≤ j → j < length queue → level_at levels (get_or queue i 0) ≡ Some
      k → level_at levels (get_or queue j 0) ≡ Some l → k ≤ l
  pub narrow : (i j k l : ℕ) → done ≤ i → i < length queue → j < length queue
      → level_at levels (get_or queue i 0) ≡ Some k → level_at levels (get_or queue j 0) ≡ Some l
      → l ≤ k + 1
  pub begun : (x : ℕ) → near start x → level_at levels x ≡ Some 1
  pub closed : (i x k : ℕ) → i < done → near (get_or queue i 0) x
      → level_at levels (get_or queue i 0) ≡ Some k → (l : ℕ) × ((level_at levels x ≡ Some l)
      × (l ≤ k + 1))

module _ (near : ℕ → ℕ → Type 0) (start : ℕ) where
  -- the first step, from the start
  pub IsPartial-begun : (old levels : List (Option ℕ)) (queue : List ℕ) → ((x : ℕ)
      → level_at old x ≡ None)
      → Spreads (near start) 1 old [] levels queue → ((x : ℕ) → near start x → HasLevel levels x)
      → IsPartial near start 0 levels queue
  IsPartial-begun old levels queue none h reached = record {
    sound = λ x k e. let f = one x k e in (0, (f.0, f.1));
    queued = λ i l. (1, (h.added i (omega arith) l, omega arith));
    covered = λ x k e. (one x k e).2;
    rising = λ i j k l a b e f. let p = level i k (omega arith) e in let q = level j l b f
        in omega (arith, p, q);
    narrow = λ i j k l a b d e f. let q = level j l d f in omega (arith, q);
    begun = λ x n. let r = reached x n in let f = (one x r.0 r.1).0 in r.1 ∙ ap (λ z. Some z) f;
    closed = λ i x k l. absurd (omega arith);
  }
    where
      one : (x k : ℕ) → level_at levels x ≡ Some k → (k ≡ 1) × near start x × ((i : ℕ)
          × ((i < length queue) × (get_or queue i 0 ≡ x)))
      one x k e = elim (h.fresh x k e) [
        | inl o ↦ let n = none x in cc
        | inr o ↦ (o.0, o.1, (o.2.0, (o.2.1.1, o.2.1.2)))
      ]

      level : (i k : ℕ) → i < length queue → level_at levels (get_or queue i 0) ≡ Some k → k ≡ 1
      level i k l e = (one (get_or queue i 0) k e).0

  -- one more step, from the class that has waited longest
  module _ (done : ℕ) (old : List (Option ℕ)) (before : List ℕ) (levels : List (Option ℕ)) (queue :
      List ℕ) (k : ℕ)
      (p : IsPartial near start done old before) (waits : done < length before) (here : level_at old
      (get_or before done 0) ≡ Some k)
      (h : Spreads (near (get_or before done 0)) (k + 1) old before levels queue)
      (reached : (x : ℕ) → near (get_or before done 0) x → HasLevel levels x) where
    -- a class in front of the queue has the level that it had
    was : (i l : ℕ) → i < length before → level_at levels (get_or queue i 0) ≡ Some l
        → level_at old (get_or before i 0) ≡ Some l
    was i l b e =
        let q = p.queued i b in
        let f : level_at levels (get_or queue i 0) ≡ Some q.0 = ap (λ z. level_at levels z) (h.front
        i b) ∙ h.kept (get_or before i 0) q.0 q.1.0 in
        let s : q.0 ≡ l = some_same q.0 l (sym f ∙ e) in
        q.1.0 ∙ ap (λ z. Some z) s

    -- and one behind has the new one
    new : (i l : ℕ) → length before ≤ i → i < length queue
        → level_at levels (get_or queue i 0) ≡ Some l → l ≡ k + 1
    new i l a b e = sym (some_same (k + 1) l (sym (h.added i a b) ∙ e))

    sound : (x l : ℕ) → level_at levels x ≡ Some l → (m : ℕ) × ((l ≡ m + 1)
        × Far (λ a b. near b a) m x start)
    sound x l e = elim (h.fresh x l e) [
      | inl o ↦ p.sound x l o
      | inr o ↦
          let s = p.sound (get_or before done 0) k here in
          let e = s.1.0 in let f = o.0 in
          (suc s.0, (omega (arith, e, f), (get_or before done 0, (o.1, s.1.1))))
    ]

    queued : (i : ℕ) → i < length queue → (l : ℕ) × ((level_at levels (get_or queue i 0) ≡ Some l)
        × (l ≤ i + 1))
    queued i b = elim (cases_lt i (length before)) [
      | inl a ↦
          let q = p.queued i a in (
            q.0,
            (
              ap (λ z. level_at levels z) (h.front i a)
                  ∙ h.kept (get_or before i 0) q.0 q.1.0,
              q.1.1,
            ),
          )
      | inr a ↦
          let q = p.queued done waits in let f = some_same q.0 k (sym q.1.0 ∙ here)
          in let g = q.1.1 in
          (k + 1, (h.added i a b, omega (arith, f, g)))
    ]

    covered : (x l : ℕ) → level_at levels x ≡ Some l → (i : ℕ) × ((i < length queue)
        × (get_or queue i 0 ≡ x))
    covered x l e = elim (h.fresh x l e) [
      | inl o ↦ let c = p.covered x l o in let a = c.1.0 in let g = h.longer
          in (c.0, (omega (arith, a, g), h.front c.0 a ∙ c.1.1))
      | inr o ↦ (o.2.0, (o.2.1.1, o.2.1.2))
    ]

    rising : (i j l m : ℕ) → i ≤ j → j < length queue → level_at levels (get_or queue i 0) ≡ Some l
        → level_at levels (get_or queue j 0) ≡ Some m → l ≤ m
    rising i j l m a b e f = by (cases_lt j (length before)) (cases_lt i (length before))
      where
        by : (j < length before) ⊎ (length before ≤ j) → (i < length before) ⊎ (length before ≤ i)
            → l ≤ m
        by (inl y) _ = let z : i < length before = omega arith
            in p.rising i j l m a y (was i l z e) (was j m y f)
        by (inr y) (inl z) =
            let n = new j m y b f in
            let s = p.narrow done i k l (omega arith) waits z here (was i l z e)
            in omega (arith, n, s)
        by (inr y) (inr z) = let n = new j m y b f in let s = new i l z (omega arith) e
            in omega (arith, n, s)

    narrow : (i j l m : ℕ) → done + 1 ≤ i → i < length queue → j < length queue
        → level_at levels (get_or queue i 0) ≡ Some l → level_at levels (get_or queue j 0) ≡ Some m
        → m ≤ l + 1
    narrow i j l m a b c e f = by (cases_lt j (length before)) (cases_lt i (length before))
      where
        by : (j < length before) ⊎ (length before ≤ j) → (i < length before) ⊎ (length before ≤ i)
            → m ≤ l + 1
        by (inl y) (inl z) = p.narrow i j l m (omega arith) z y (was i l z e) (was j m y f)
        by (inl y) (inr z) =
            let n = new i l z b e in
            let s = p.narrow done j k m (omega arith) waits y here (was j m y f)
            in omega (arith, n, s)
        by (inr y) (inl z) =
            let n = new j m y c f in
            let s = p.rising done i k l (omega arith) z here (was i l z e) in omega (arith, n, s)
        by (inr y) (inr z) = let n = new j m y c f in let s = new i l z b e in omega (arith, n, s)

    -- a class near the one that was gone on from has at most the level after its own
    nearby : (x : ℕ) → near (get_or before done 0) x → (l : ℕ) × ((level_at levels x ≡ Some l)
        × (l ≤ k + 1))
    nearby x n = let r = reached x n in (r.0, (r.1, by r.0 r.1 (h.fresh x r.0 r.1)))
      where
        by : (l : ℕ) → level_at levels x ≡ Some l
            → (level_at old x ≡ Some l) ⊎ ((l ≡ k + 1) × near (get_or before done 0) x × ((i : ℕ)
            × ((length before ≤ i) × (i < length queue) × (get_or queue i 0 ≡ x))))
            → l ≤ k + 1
        by l e (inl o) =
            let c = p.covered x l o in
            p.narrow done c.0 k l (omega arith) waits c.1.0 here (ap (λ z. level_at old z) c.1.1
            ∙ o)
        by l e (inr o) = let f = o.0 in omega (arith, f)

    closed : (i x l : ℕ) → i < done + 1 → near (get_or queue i 0) x
        → level_at levels (get_or queue i 0) ≡ Some l → (m : ℕ) × ((level_at levels x ≡ Some m)
        × (m ≤ l + 1))
    closed i x l a n e = by (cases_lt i done)
      where
        in_front : i < length before
        in_front = omega arith

        at : near (get_or before i 0) x
        at = subst (λ z. near z x) (h.front i in_front) n

        by : (i < done) ⊎ (done ≤ i) → (m : ℕ) × ((level_at levels x ≡ Some m) × (m ≤ l + 1))
        by (inl b) = let c = p.closed i x l b at (was i l in_front e)
            in (c.0, (h.kept x c.0 c.1.0, c.1.1))
        by (inr b) =
            let s : i ≡ done = omega arith in
            let c = nearby x (subst (λ z. near (get_or before z 0) x) s at) in
            let t : k ≡ l = some_same k l (sym here ∙ ap (λ z. level_at old (get_or before z 0))
            (sym s) ∙ was i l in_front e) in
            let u = c.1.1 in
            (c.0, (c.1.0, omega (arith, t, u)))

    pub IsPartial-more : IsPartial near start (done + 1) levels queue
    IsPartial-more = record {
      sound = sound;
      queued = queued;
      covered = covered;
      rising = rising;
      narrow = narrow;
      begun = λ x n. h.kept x 1 (p.begun x n);
      closed = closed;
    }

  -- where none waits, the levels are the distances to the start against the steps
  module _ (done : ℕ) (levels : List (Option ℕ)) (queue : List ℕ) (p : IsPartial near start done
      levels queue) (all : length queue ≤ done) where
    complete : (n x : ℕ) → Far (λ a b. near b a) n x start → (k : ℕ) × ((level_at levels x ≡ Some k)
        × (k ≤ n + 1))
    complete zero x f = (1, (p.begun x f, omega arith))
    complete (suc n) x f =
        let r = complete n f.0 f.1.1 in
        let c = p.covered f.0 r.0 r.1.0 in
        let i = c.1.0 in
        let s = p.closed c.0 x r.0 (omega (arith, i)) (subst (λ z. near z x) (sym c.1.1) f.1.0) (ap
        (λ z. level_at levels z) c.1.1 ∙ r.1.0) in
        let a = r.1.1 in let b = s.1.1 in
        (s.0, (s.1.0, omega (arith, a, b)))

    pub IsPartial-all : (x : ℕ) → DistanceIs (λ a b. near b a) x start (level_at levels x)
    IsPartial-all x = by (level_at levels x) refl
      where
        by : (o : Option ℕ) → level_at levels x ≡ o → DistanceIs (λ a b. near b a) x start o
        by None e = λ w.
            let f = IsWalk-Far (λ a b. near b a) x start w.0 w.1 in
            let c = (complete f.0 x f.1.1).1.0 in cc
        by (Some k) e =
            let s = p.sound x k e in
            subst (λ z. IsDistance (λ a b. near b a) x start z) (sym s.1.0)
            (IsDistance-Far (λ a b. near b a) x start s.0 s.1.1
            (λ m f. let c = complete m x f in let t = some_same c.0 k (sym c.1.0 ∙ e)
            in let u = c.1.1 in let v = s.1.0 in omega (arith, t, u, v)))

-- What a search has found before it ends: the levels are distances, and each class that is nearer than one that
-- has a level has its own.
module _ (near : ℕ → ℕ → Type 0) (start done : ℕ) (levels : List (Option ℕ)) (queue : List ℕ)
    (p : IsPartial near start done levels queue) where
  -- the class that waits longest has at most this level
  abbrev waits_at : ℕ → Type 0
  waits_at n = (done < length queue) × ((k : ℕ) × ((level_at levels (get_or queue done 0) ≡ Some k) × (k ≤ n)))

  found_or_waits : (n x : ℕ) → Far (λ a b. near b a) n x start
      → ((k : ℕ) × ((level_at levels x ≡ Some k) × (k ≤ n + 1))) ⊎ waits_at n
  found_or_waits zero x f = inl (1, (p.begun x f, omega arith))
  found_or_waits (suc n) x f = by (found_or_waits n f.0 f.1.1)
    where
      goes_on : (k : ℕ) → level_at levels f.0 ≡ Some k → k ≤ n + 1 → (i : ℕ) → i < length queue
          → get_or queue i 0 ≡ f.0 → (i < done) ⊎ (done ≤ i)
          → ((k : ℕ) × ((level_at levels x ≡ Some k) × (k ≤ suc n + 1))) ⊎ waits_at (suc n)
      goes_on k e a i b at (inl l) =
          let s = p.closed i x k l (subst (λ z. near z x) (sym at) f.1.0) (ap (λ z. level_at levels z) at ∙ e) in
          let u = s.1.1 in
          inl (s.0, (s.1.0, omega (arith, a, u)))
      goes_on k e a i b at (inr l) =
          let waits : done < length queue = omega (arith, l, b) in
          let q = p.queued done waits in
          let r = p.rising done i q.0 k l b q.1.0 (ap (λ z. level_at levels z) at ∙ e) in
          inr (waits, (q.0, (q.1.0, omega (arith, r, a))))

      by : ((k : ℕ) × ((level_at levels f.0 ≡ Some k) × (k ≤ n + 1))) ⊎ waits_at n
          → ((k : ℕ) × ((level_at levels x ≡ Some k) × (k ≤ suc n + 1))) ⊎ waits_at (suc n)
      by (inl r) =
          let c = p.covered f.0 r.0 r.1.0 in
          goes_on r.0 r.1.0 r.1.1 c.0 c.1.0 c.1.1 (cases_lt c.0 done)
      by (inr w) = let a = w.1.1.1 in inr (w.0, (w.1.0, (w.1.1.0, omega (arith, a))))

  -- each level is at most one above that of the class that waits longest
  level_near : (x l k : ℕ) → level_at levels x ≡ Some l → done < length queue
      → level_at levels (get_or queue done 0) ≡ Some k → l ≤ k + 1
  level_near x l k e waits here =
      let c = p.covered x l e in
      let b = c.1.0 in
      p.narrow done c.0 k l (omega arith) waits b here (ap (λ z. level_at levels z) c.1.1 ∙ e)

  pub IsPartial-right : (x k : ℕ) → level_at levels x ≡ Some k → IsDistance (λ a b. near b a) x start k
  IsPartial-right x k e =
      let s = p.sound x k e in
      let same = s.1.0 in
      subst (λ z. IsDistance (λ a b. near b a) x start z) (sym same)
      (IsDistance-Far (λ a b. near b a) x start s.0 s.1.1 (λ m f. least m (found_or_waits m x f) s.0 same))
    where
      least : (m : ℕ) → ((l : ℕ) × ((level_at levels x ≡ Some l) × (l ≤ m + 1))) ⊎ waits_at m → (n : ℕ) → k ≡ n + 1 → n ≤ m
      least m (inl r) n same = let t = some_same r.0 k (sym r.1.0 ∙ e) in let u = r.1.1 in omega (arith, t, u, same)
      least m (inr w) n same = let r = level_near x k w.1.0 e w.0 w.1.1.0 in let u = w.1.1.1 in omega (arith, r, u, same)

  pub IsPartial-levels : (w : ℕ) → HasLevel levels w ⊎ (length queue ≤ done) → AreLevelsFor (λ a b. near b a) w start levels
  IsPartial-levels w known = record {
    own = own known;
    right = IsPartial-right;
    nearer = λ c m n d e l.
        let f = IsWalk-Far (λ a b. near b a) c start d.reached.0 d.reached.1.0 in
        let u = d.reached.1.1 in
        let v = f.1.0 in
        nearer c m n f.0 d e l (omega (arith, u, v)) (found_or_waits f.0 c f.1.1);
  }
    where
      own : HasLevel levels w ⊎ (length queue ≤ done) → DistanceIs (λ a b. near b a) w start (level_at levels w)
      own (inl h) = subst (DistanceIs (λ a b. near b a) w start) (sym h.1) (IsPartial-right w h.0 h.1)
      own (inr all) = IsPartial-all near start done levels queue p all w

      nearer : (c m n k : ℕ) → IsDistance (λ a b. near b a) c start m → level_at levels w ≡ Some n → m < n → m ≡ k + 1
          → ((l : ℕ) × ((level_at levels c ≡ Some l) × (l ≤ k + 1))) ⊎ waits_at k → level_at levels c ≡ Some m
      nearer c m n k d e l same (inl r) =
          r.1.0 ∙ ap (λ z. Some z) (distance_one (λ a b. near b a) c start r.0 m (IsPartial-right c r.0 r.1.0) d)
      nearer c m n k d e l same (inr q) =
          let r = level_near w n q.1.0 e q.0 q.1.1.0 in
          let u = q.1.1.1 in
          absurd (omega (arith, r, u, same, l))

-- what has a level waits, or has waited
pub IsPartial-touched : (near : ℕ → ℕ → Type 0) (start done : ℕ) (levels : List (Option ℕ)) (queue : List ℕ)
    → IsPartial near start done levels queue → AreTouched levels queue
IsPartial-touched near start done levels queue p = record {
  within = λ x n.
      let b = n.1 in
      let q = p.queued n.0 b in
      let s = get_or_default queue n.0 0 x b ∙ n.2 in
      level_within levels x q.0 (ap (λ z. level_at levels z) (sym s) ∙ q.1.0);
  all = λ x k e.
      let c = p.covered x k e in
      let b = c.1.0 in
      subst (Contains queue) c.1.1 (Contains-get_or queue c.0 0 b);
}

-- the same facts as the code reads them: x is the class that has waited longest
module _ (near : ℕ → ℕ → Type 0) (start done : ℕ) (old : List (Option ℕ)) (before : List ℕ) (p :
    IsPartial near start done old before)
    (waits : done < length before) (x : ℕ) (read : x ≡ get_or before done x) where
  first : get_or before done 0 ≡ x
  first = sym (get_or_read before done x waits read 0)

  pub next_level : (k : ℕ) × ((level_at old x ≡ Some k) × (k ≤ done + 1))
  next_level =
      let q = p.queued done waits in
      (q.0, (ap (λ z. level_at old z) (sym first) ∙ q.1.0, q.1.1))

  pub next_within : x < length old
  next_within = let q = next_level in level_within old x q.0 q.1.0

  pub next_small : (k : ℕ) → level_at old x ≡ Some k → k ≤ length before
  next_small k e = let q = next_level in let s = some_same q.0 k (sym q.1.0 ∙ e) in let l = q.1.1
      in omega (arith, s, l)

  pub IsPartial-next : (levels : List (Option ℕ)) (queue : List ℕ) (k : ℕ) → level_at old x ≡ Some k
      → Spreads (near x) (k + 1) old before levels queue → ((y : ℕ) → near x y → HasLevel levels y)
      → IsPartial near start (done + 1) levels queue
  IsPartial-next levels queue k e h reached =
      IsPartial-more near start done old before levels queue k p waits (ap (λ z. level_at old z)
      first ∙ e)
      (subst (λ z. Spreads (near z) (k + 1) old before levels queue) (sym first) h)
      (subst (λ z. (y : ℕ) → near z y → HasLevel levels y) (sym first) reached)
