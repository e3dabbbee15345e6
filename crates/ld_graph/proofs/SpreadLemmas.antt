-- One class after another is given a level.
use Rattle.std.proofs.Common.{◌≡◌, ◌≢◌, ℕ, true, false, true≢false, is_some, is_none, Contains}
use Rattle.std.proofs.Common.{cond, count_by, ◌+◌, ◌<◌, ◌≤◌, ◌⊎◌, inl, inr, List, [], ◌∷◌, ◌++◌}
use Rattle.std.proofs.Common.{length, get_or, set, Option, Some, None, arith, refl, sym, ap, subst}
use Rattle.std.proofs.Common.{◌∙◌}
use Rattle.std.proofs.lemmas.List.{get_or_append_left, get_or_push, length_push, get_or-set_same}
use Rattle.std.proofs.lemmas.List.{get_or-set_other}
use Rattle.std.proofs.lemmas.List.Sums.{sum_by-set, count_by-le-length}
use Rattle.std.proofs.lemmas.Bool.{cases_lt, cases_eq}
use Rattle.std.proofs.lemmas.List.Elements.{Contains-get_or}
use Rattle.ld_graph.specs.Inner.Levels.{level_at, Spreads}
use Rattle.ld_graph.proofs.NearLemmas.{within_of}

pub some_same : (k l : ℕ) → Some k ≡ Some l → k ≡ l
some_same k l e = cc

-- a class with a level is within the list
pub level_within : (levels : List (Option ℕ)) (x k : ℕ) → level_at levels x ≡ Some k
    → x < length levels
level_within levels x k h = within_of levels x None (λ e. let f : level_at levels x ≡ None = e in cc)

-- a class with a level keeps it where one with none is given one
pub kept_marked : (levels : List (Option ℕ)) (y level : ℕ) → level_at levels y ≡ None
    → (x k : ℕ) → level_at levels x ≡ Some k → level_at (set levels y (Some level)) x ≡ Some k
kept_marked levels y level free x k e = elim (cases_eq x y) [
  | inl p ↦ let f : level_at levels x ≡ None = ap (λ z. level_at levels z) p ∙ free in cc
  | inr p ↦ get_or-set_other levels y x (Some level) None p ∙ e
]

module _ (near : ℕ → Type 0) (level : ℕ) where
  module _ (old : List (Option ℕ)) (before : List ℕ) (now : List (Option ℕ)) (queue : List ℕ) (h :
      Spreads near level old before now queue)
      (y : ℕ) (ny : near y) (within : y < length now) (free : level_at now y ≡ None) where
    abbrev marked : List (Option ℕ)
    marked = set now y (Some level)

    abbrev waiting : List ℕ
    waiting = queue ++ y ∷ []

    other : (x : ℕ) → x ≢ y → level_at marked x ≡ level_at now x
    other x ne = get_or-set_other now y x (Some level) None ne

    same : level_at marked y ≡ Some level
    same = get_or-set_same now y (Some level) None within

    fresh : (x k : ℕ) → level_at marked x ≡ Some k
        → (level_at old x ≡ Some k)
        ⊎ ((k ≡ level) × near x × ((i : ℕ) × ((length before ≤ i) × (i < length waiting)
        × (get_or waiting i 0 ≡ x))))
    fresh x k e = elim (cases_eq x y) [
      | inl p ↦
          let f : Some level ≡ Some k = sym same ∙ ap (λ z. level_at marked z) (sym p) ∙ e in
          let q = length_push queue y in let l = h.longer in
          inr (
            sym (some_same level k f),
            subst near (sym p) ny,
            (length queue, (l, omega (arith, q), get_or_push queue y 0 (length queue) refl ∙ sym p)),
          )
      | inr p ↦ elim (h.fresh x k (sym (other x p) ∙ e)) [
        | inl o ↦ inl o
        | inr o ↦
            let l = o.2.1.1 in let p = length_push queue y in
            inr (o.0, o.1, (o.2.0, (o.2.1.0, omega (arith, l, p), get_or_append_left queue (y ∷ []) 0 o.2.0 l ∙ o.2.1.2)))
      ]
    ]

    added : (i : ℕ) → length before ≤ i → i < length waiting
        → level_at marked (get_or waiting i 0) ≡ Some level
    added i a b = elim (cases_lt i (length queue)) [
      | inl l ↦ ap (λ z. level_at marked z) (get_or_append_left queue (y ∷ []) 0 i l)
          ∙ kept_marked now y level free (get_or queue i 0) level (h.added i a l)
      | inr l ↦
          let p = length_push queue y in let e : length queue ≡ i = omega (arith, p, b) in
          ap (λ z. level_at marked z) (get_or_push queue y 0 i e) ∙ same
    ]

    -- one more class, near and without a level, is given it
    pub Spreads-more : Spreads near level old before marked waiting
    Spreads-more = record {
      kept = λ x k e. kept_marked now y level free x k (h.kept x k e);
      fresh = fresh;
      front = λ i l. let g = h.longer in let m : i < length queue = omega arith
          in get_or_append_left queue (y ∷ []) 0 i m ∙ h.front i l;
      longer = let g = h.longer in let p = length_push queue y in omega arith;
      added = added;
    }

pub some_is : (o : Option ℕ) → is_some o ≡ true → (k : ℕ) × (o ≡ Some k)
some_is None e = absurd (true≢false (sym e))
some_is (Some k) e = (k, refl)

pub none_is : (o : Option ℕ) → is_some o ≡ false → o ≡ None
none_is None e = refl
none_is (Some k) e = absurd (true≢false e)

-- one fewer class has no level where one that had none is given one
pub count_marked : (levels : List (Option ℕ)) (x k : ℕ) → x < length levels
    → level_at levels x ≡ None
    → count_by is_none (set levels x (Some k)) + 1 ≡ count_by is_none levels
count_marked levels x k l e =
    let s : count_by is_none (set levels x (Some k)) + cond {A = ℕ} (is_none (level_at levels x)) 1
    0 ≡ count_by is_none levels + 0 =
    sum_by-set (λ o. cond {A = ℕ} (is_none o) 1 0) levels x (Some k) None l in
    let f : cond {A = ℕ} (is_none (level_at levels x)) 1 0 ≡ 1 = ap (λ o. cond {A = ℕ} (is_none o) 1
    0) e in
    omega arith

-- fewer classes wait for a level than there are classes
pub count_none : (levels : List (Option ℕ)) → count_by is_none levels ≤ length levels
count_none levels = count_by-le-length is_none levels

-- an element that is read is in the list
pub near_here : (near : List ℕ) (k : ℕ) → k < length near → Contains near (get_or near k 0)
near_here near k l = Contains-get_or near k 0 l
