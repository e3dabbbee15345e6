-- The runs stay apart and within the slots as a class or a neighbour is added.
use Rattle.std.proofs.Common.{◌≡◌, ◌≢◌, ℕ, zero, suc, ◌+◌, ◌-◌, ◌*◌, ◌<◌, ◌≤◌, ◌⊎◌, inl, inr, max}
use Rattle.std.proofs.Common.{List, [], ◌∷◌, ◌++◌, length, map, get_or, set, take, drop, replicate}
use Rattle.std.proofs.Common.{arith, refl, sym, ap, subst, ◌∙◌}
use Rattle.std.proofs.lemmas.List.{get_or_past, length-append}
use Rattle.std.proofs.lemmas.List.{length-replicate, get_or-set_same, get_or-set_other, length-set}
use Rattle.std.proofs.lemmas.List.{length-take-le, length-drop, append_assoc, drop_at, take_at}
use Rattle.std.proofs.lemmas.List.{drop-append-le, take-append-le, drop-set-lt, drop-set-add}
use Rattle.std.proofs.lemmas.List.{take-set-le, take_more_set}
use Rattle.std.proofs.lemmas.Bool.{cases_lt, cases_eq}
use Rattle.ld_graph.specs.declared.neighbours.Run.{Run}
use Rattle.ld_graph.specs.Inner.Runs.{no_run, run_at, items_of, total, AreApart, AreRuns, HasMoved}
use Rattle.ld_graph.specs.Inner.Runs.{HasWay}
use Rattle.ld_graph.proofs.NearLemmas.{get_or-push_default}

module _ (f : Run → ℕ) where
  pub total-set : (rs : List Run) (i : ℕ) (y : Run) → i < length rs
      → total f (set rs i y) + f (run_at rs i) ≡ total f rs + f y
  total-set [] i y l = absurd (omega arith)
  total-set (r ∷ rs) zero y l = omega arith
  total-set (r ∷ rs) (suc i) y l = let h = total-set rs i y (omega arith) in omega (arith, h)

  pub total-push : (rs : List Run) (y : Run) → total f (rs ++ y ∷ []) ≡ total f rs + f y
  total-push [] y = omega arith
  total-push (r ∷ rs) y = let h = total-push rs y in omega (arith, h)

pub total-twice : (f : Run → ℕ) (rs : List Run) → total (λ r. 2 * f r) rs ≡ 2 * total f rs
total-twice f [] = refl
total-twice f (r ∷ rs) = let h = total-twice f rs in omega (arith, h)

module _ (f g : Run → ℕ) where
  pub total-le : (rs : List Run) → ((i : ℕ) → i < length rs → f (run_at rs i) ≤ g (run_at rs i))
      → total f rs ≤ total g rs
  total-le [] h = omega arith
  total-le (r ∷ rs) h = let a = h 0 (omega arith) in let b = total-le rs (λ i l. h (suc i) (omega
      arith)) in omega (arith, a, b)

  pub total-at : (rs : List Run) → ((i : ℕ) → i < length rs → f (run_at rs i) ≤ g (run_at rs i))
      → (c : ℕ) → c < length rs
      → total f rs + g (run_at rs c) ≤ total g rs + f (run_at rs c)
  total-at [] h c l = absurd (omega arith)
  total-at (r ∷ rs) h zero l = let b = total-le rs (λ i m. h (suc i) (omega arith))
      in omega (arith, b)
  total-at (r ∷ rs) h (suc c) l =
      let a = h 0 (omega arith) in let b = total-at rs (λ i m. h (suc i) (omega arith)) c (omega
      arith) in omega (arith, a, b)

-- where a run is full, four slots for each item are enough for it to move
pub way_room : (runs : List Run) (slots : List ℕ) (items c : ℕ) → AreRuns runs slots items
    → c < length runs
    → (run_at runs c).len ≡ (run_at runs c).room → length slots + max 1 (2 * (run_at runs c).len) ≤
    4 * (items + 1)
way_room runs slots items c h l full =
    let a = total-at (λ r. r.room) (λ r. 2 * r.len) runs (λ i m. (h.fits i m).1) c l in
    let b = total-twice (λ r. r.len) runs in
    let u = h.used in let n = h.counted in
    omega (arith, a, b, u, n)

-- a new class has an empty run
pub AreRuns-class : (runs : List Run) (slots : List ℕ) (items : ℕ) → AreRuns runs slots items
    → AreRuns (runs ++ no_run ∷ []) slots items
AreRuns-class runs slots items h = record {
  fits = λ i l. rw (get_or-push_default runs no_run i) (by i (cases_lt i (length runs)));
  apart = λ i j l m ne. rw (get_or-push_default runs no_run i, get_or-push_default runs no_run j)
      (two i j (cases_lt i (length runs)) (cases_lt j (length runs)) ne);
  used = let t = total-push (λ r. r.room) runs no_run in let u = h.used in omega (arith, t, u);
  counted = let t = total-push (λ r. r.len) runs no_run in let u = h.counted in omega (arith, t, u);
}
  where
    by : (i : ℕ) → (i < length runs) ⊎ (length runs ≤ i) → ((run_at runs i).len ≤ (run_at runs i).room)
        × ((run_at runs i).room ≤ 2 * (run_at runs i).len) × ((run_at runs i).start + (run_at runs i).room ≤ length slots)
    by i (inl l) = h.fits i l
    by i (inr l) = rw (get_or_past runs i no_run l) (omega arith, omega arith, omega arith)

    two : (i j : ℕ) → (i < length runs) ⊎ (length runs ≤ i) → (j < length runs) ⊎ (length runs ≤ j) → i ≢ j
        → AreApart (run_at runs i) (run_at runs j)
    two i j (inl a) (inl b) ne = h.apart i j a b ne
    two i j (inr a) _ ne = rw (get_or_past runs i no_run a) (inl (omega arith))
    two i j (inl a) (inr b) ne = rw (get_or_past runs j no_run b) (inr (omega arith))

-- a map over a list of which one element was replaced, and whose function changed where it doesn't
-- matter
module _ {A B : Type 0} (f g : A → B) (d : A) where
  map-other : (xs : List A) → ((i : ℕ) → i < length xs → g (get_or xs i d) ≡ f (get_or xs i d))
      → map g xs ≡ map f xs
  map-other [] h = refl
  map-other (x ∷ xs) h = ap (λ y. y ∷ map g xs) (h 0 (omega arith))
      ∙ ap (λ ys. f x ∷ ys) (map-other xs (λ i l. h (suc i) (omega arith)))

  pub map-replaced : (xs : List A) (c : ℕ) (y : A) (v : B) → c < length xs
      → ((i : ℕ) → i < length xs → i ≢ c → g (get_or xs i d) ≡ f (get_or xs i d)) → g y ≡ v
      → map g (set xs c y) ≡ set (map f xs) c v
  map-replaced [] c y v l h e = absurd (omega arith)
  map-replaced (x ∷ xs) zero y v l h e = ap (λ z. z ∷ map g xs) e
      ∙ ap (λ ys. v ∷ ys) (map-other xs (λ i m. h (suc i) (omega arith) (omega arith)))
  map-replaced (x ∷ xs) (suc c) y v l h e =
      ap (λ z. z ∷ map g (set xs c y)) (h 0 (omega arith) (omega arith))
      ∙ ap (λ ys. f x ∷ ys) (map-replaced xs c y v (omega arith) (λ i m ne. h (suc i) (omega arith)
      (omega arith)) e)

-- a part of the slots, when more come behind, or another one is written
pub part-append : (xs ys : List ℕ) (s n : ℕ) → s + n ≤ length xs
    → take n (drop s (xs ++ ys)) ≡ take n (drop s xs)
part-append xs ys s n l =
    let d = length-drop s xs in
    ap (take n) (drop-append-le s xs ys (omega arith)) ∙ take-append-le n (drop s xs) ys (omega
    arith)

pub part-set : (xs : List ℕ) (p x s n : ℕ) → (p < s) ⊎ (s + n ≤ p)
    → take n (drop s (set xs p x)) ≡ take n (drop s xs)
part-set xs p x s n (inl l) = ap (take n) (drop-set-lt s xs p x l)
part-set xs p x s n (inr l) =
    let e : p ≡ s + (p - s) = omega arith in
    ap (λ q. take n (drop s (set xs q x))) e ∙ ap (take n) (drop-set-add s xs (p - s) x)
    ∙ take-set-le n (drop s xs) (p - s) x (omega arith)

pub part-more : (xs : List ℕ) (x s n : ℕ) → s + n < length xs
    → take (n + 1) (drop s (set xs (s + n) x)) ≡ take n (drop s xs) ++ x ∷ []
part-more xs x s n l =
    let d = length-drop s xs in
    ap (take (n + 1)) (drop-set-add s xs n x) ∙ take_more_set (drop s xs) n x (omega arith)

-- what the run of c has when there is room in it for one more item
pub record IsWay (runs : List Run) (c : ℕ) (old new : List ℕ) (made : Run) : Type 0 where
  pub longer : length old ≤ length new
  pub len : made.len ≡ (run_at runs c).len
  pub free : made.len < made.room
  pub small : made.room ≤ 2 * (made.len + 1)
  pub within : made.start + made.room ≤ length new
  pub kept : (s n : ℕ) → s + n ≤ length old → take n (drop s new) ≡ take n (drop s old)
  pub items : items_of new made ≡ items_of old (run_at runs c)
  pub apart : (i : ℕ) → i < length runs → i ≢ c → AreApart made (run_at runs i)
  pub used : length new + 2 * (run_at runs c).room ≤ 2 * total (λ r. r.room) runs + 2 * made.room

module _ (runs : List Run) (old : List ℕ) (count c : ℕ) (h : AreRuns runs old count) (l : c < length
    runs) where
  as_it_is : (made : Run) → made ≡ run_at runs c → made.len < made.room → IsWay runs c old old made
  as_it_is made e f =
      subst (λ r. IsWay runs c old old r) (sym e) (record {
        longer = omega arith;
        len = refl;
        free = subst (λ r. r.len < r.room) e f;
        small = let s = (h.fits c l).1 in omega (arith, s);
        within = (h.fits c l).2;
        kept = λ s n m. refl;
        items = refl;
        apart = λ i m ne. h.apart c i l m (λ q. ne (sym q));
        used = let u = h.used in omega (arith, u);
      })

  moved : (new : List ℕ) (made : Run) → HasMoved old (run_at runs c) new made
      → IsWay runs c old new made
  moved new made m = record {
    longer = let n = grown in omega (arith, n);
    len = m.len;
    free = let a = m.room in let b = m.len in omega (arith, a, b);
    small = let a = m.room in let b = m.len in omega (arith, a, b);
    within = let n = grown in let s = m.start in omega (arith, n, s);
    kept = λ s n q. ap (λ xs. take n (drop s xs)) tail ∙ part-append old (items_of old (run_at runs
        c) ++ replicate (made.room - (run_at runs c).len) 0) s n q;
    items =
        ap (λ k. take k (drop made.start new)) m.len ∙ ap (λ k. take (run_at runs c).len (drop k
        new)) m.start
        ∙ ap (λ xs. take (run_at runs c).len (drop (length old) xs)) tail
        ∙ ap (take (run_at runs c).len) (drop_at old (items_of old (run_at runs c) ++ replicate
        (made.room - (run_at runs c).len) 0) (length old) refl)
        ∙ take_at (items_of old (run_at runs c)) (replicate (made.room - (run_at runs c).len) 0)
        (run_at runs c).len many;
    apart = λ i q ne. let f = (h.fits i q).2 in let s = m.start in inr (omega (arith, f, s));
    used = let n = grown in let u = h.used in let a = m.room in let b = m.full
        in omega (arith, n, u, a, b);
  }
    where
      many : length (items_of old (run_at runs c)) ≡ (run_at runs c).len
      many =
          let f = h.fits c l in let a = f.0 in let b = f.2
          in let d = length-drop (run_at runs c).start old in
          length-take-le (run_at runs c).len (drop (run_at runs c).start old) (omega (arith, a, b, d))

      tail : new ≡ old ++ (items_of old (run_at runs c) ++ replicate (made.room - (run_at runs
          c).len) 0)
      tail = m.items ∙ append_assoc old (items_of old (run_at runs c)) (replicate (made.room -
          (run_at runs c).len) 0)

      grown : length new ≡ length old + made.room
      grown =
          let e = ap length tail in
          let a = length-append old (items_of old (run_at runs c) ++ replicate (made.room - (run_at
          runs c).len) 0) in
          let b = length-append (items_of old (run_at runs c)) (replicate (made.room - (run_at runs
          c).len) 0) in
          let d = length-replicate {A = ℕ} (made.room - (run_at runs c).len) 0 in
          let k = many in let r = m.room in
          omega (arith, e, a, b, d, k, r)

  pub IsWay-made : (new : List ℕ) (made : Run) → HasWay old (run_at runs c) new made
      → IsWay runs c old new made
  IsWay-made new made (inl w) =
      subst (λ xs. IsWay runs c old xs made) (sym w.1) (as_it_is made w.2 (subst (λ r. r.len <
      r.room) (sym w.2) w.0))
  IsWay-made new made (inr w) = moved new made w

  module _ (new : List ℕ) (made : Run) (w : HasWay old (run_at runs c) new made) (x : ℕ) where
    abbrev longer_run : Run
    longer_run = record { start = made.start; len = made.len + 1; room = made.room }

    abbrev more_runs : List Run
    more_runs = set runs c longer_run

    abbrev more_slots : List ℕ
    more_slots = set new (made.start + made.len) x

    way : IsWay runs c old new made
    way = IsWay-made new made w

    pub way_within : made.start + made.len < length new
    way_within = let a = way.free in let b = way.within in omega (arith, a, b)

    here : run_at more_runs c ≡ longer_run
    here = get_or-set_same runs c longer_run no_run l

    there : (i : ℕ) → i ≢ c → run_at more_runs i ≡ run_at runs i
    there i ne = get_or-set_other runs c i longer_run no_run ne

    fits : (i : ℕ) → i < length runs → (i ≡ c) ⊎ (i ≢ c)
        → ((run_at more_runs i).len ≤ (run_at more_runs i).room)
        × ((run_at more_runs i).room ≤ 2 * (run_at more_runs i).len)
        × ((run_at more_runs i).start + (run_at more_runs i).room ≤ length more_slots)
    fits i m (inl e) =
        let a = way.free in let b = way.small in let d = way.within
        in let n = length-set new (made.start + made.len) x in
        subst (λ r. (r.len ≤ r.room) × (r.room ≤ 2 * r.len)
        × (r.start + r.room ≤ length more_slots)) (sym (ap (λ k. run_at more_runs k) e ∙ here))
        (omega (arith, a), omega (arith, b), omega (arith, d, n))
    fits i m (inr ne) =
        let f = h.fits i m in let d = f.2 in let g = way.longer
        in let n = length-set new (made.start + made.len) x in
        subst (λ r. (r.len ≤ r.room) × (r.room ≤ 2 * r.len)
        × (r.start + r.room ≤ length more_slots)) (sym (there i ne))
        (f.0, f.1, omega (arith, d, g, n))

    turned : (r s : Run) → AreApart r s → AreApart s r
    turned r s (inl a) = inr a
    turned r s (inr a) = inl a

    apart : (i j : ℕ) → i < length runs → j < length runs → i ≢ j → (i ≡ c) ⊎ (i ≢ c) → (j ≡ c)
        ⊎ (j ≢ c) → AreApart (run_at more_runs i) (run_at more_runs j)
    apart i j a b ne (inl p) (inl q) = absurd (ne (p ∙ sym q))
    apart i j a b ne (inl p) (inr q) =
        subst (λ r. AreApart r (run_at more_runs j)) (sym (ap (λ k. run_at more_runs k) p ∙ here))
        (subst (λ r. AreApart longer_run r) (sym (there j q)) (way.apart j b q))
    apart i j a b ne (inr p) (inl q) =
        subst (λ r. AreApart (run_at more_runs i) r) (sym (ap (λ k. run_at more_runs k) q ∙ here))
        (subst (λ r. AreApart r longer_run) (sym (there i p)) (turned longer_run (run_at runs i)
        (way.apart i a p)))
    apart i j a b ne (inr p) (inr q) =
        subst (λ r. AreApart r (run_at more_runs j)) (sym (there i p)) (subst (λ r. AreApart (run_at
        runs i) r) (sym (there j q)) (h.apart i j a b ne))

    pub AreRuns-more : AreRuns more_runs more_slots (count + 1)
    AreRuns-more = record {
      fits = λ i m. fits i (subst (λ n. i < n) (length-set runs c longer_run) m) (cases_eq i c);
      apart = λ i j a b ne. apart i j (subst (λ n. i < n) (length-set runs c longer_run) a) (subst
          (λ n. j < n) (length-set runs c longer_run) b) ne (cases_eq i c) (cases_eq j c);
      used =
          let t = total-set (λ r. r.room) runs c longer_run l in let u = way.used
          in let n = length-set new (made.start + made.len) x in
          omega (arith, t, u, n);
      counted =
          let t = total-set (λ r. r.len) runs c longer_run l in let u = h.counted
          in let n = way.len in
          omega (arith, t, u, n);
    }

    others : (i : ℕ) → i < length runs → i ≢ c → items_of more_slots (run_at runs i) ≡ items_of old
        (run_at runs i)
    others i m ne =
        let f = h.fits i m in let a = f.0 in let b = f.2 in let free = way.free in
        part-set new (made.start + made.len) x (run_at runs i).start (run_at runs i).len (by
        (way.apart i m ne))
        ∙ way.kept (run_at runs i).start (run_at runs i).len (omega (arith, a, b))
      where
        by : AreApart made (run_at runs i) → (made.start + made.len < (run_at runs i).start)
            ⊎ ((run_at runs i).start + (run_at runs i).len ≤ made.start + made.len)
        by (inl p) = let free = way.free in inl (omega (arith, p, free))
        by (inr p) = let a = (h.fits i m).0 in inr (omega (arith, p, a))

    pub lists-more : map (items_of more_slots) more_runs ≡ set (map (items_of old) runs) c (items_of
        old (run_at runs c) ++ x ∷ [])
    lists-more =
        map-replaced (items_of old) (items_of more_slots) no_run runs c longer_run (items_of old
        (run_at runs c) ++ x ∷ []) l others
        (part-more new x made.start made.len way_within ∙ ap (λ it. it ++ x ∷ []) way.items)
