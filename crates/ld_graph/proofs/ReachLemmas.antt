-- A reach that is spread over classes that wait is exact at the end.
use Rattle.std.proofs.Common.{◌≡◌, ◌≢◌, ℕ, zero, suc, ◌+◌, ◌<◌, ◌≤◌, ◌⊎◌, inl, inr, Bool, true, false, true≢false, List, [], ◌∷◌}
use Rattle.std.proofs.Common.{◌++◌, length, get_or, set, Option, Some, None, is_some, Contains, MatchOption, below_more, take, unwrap_or}
use Rattle.std.proofs.Common.{arith, refl, sym, ap, subst, ◌∙◌}
use Rattle.std.proofs.lemmas.Bool.{cases_eq, cases_lt}
use Rattle.std.proofs.lemmas.List.{get_or-set_same, get_or-set_other, get_or_past, get_or_append_left, get_or_default, length_push, take-append-le}
use Rattle.std.proofs.lemmas.List.Elements.{Contains-get_or, Contains-append_left, Contains-push, Contains-push_cases}
use Rattle.ld_graph.specs.Inner.KeptReach.{reach_of, AreExpanded, IsSpread, all_ahead, none_ahead, ahead_from}
use Rattle.ld_graph.specs.Inner.Marks.{Marked}
use Rattle.ld_graph.specs.Inner.Sources.{AreReached, IsGiven, Sourced}
use Rattle.ld_graph.specs.Lists.{Reading}
use Rattle.ld_graph.specs.declared.Edge.{Edge}
use Rattle.ld_graph.specs.declared.reach.Reach.TheInside.{Inside}
use Rattle.ld_graph.specs.Edges.{IsEdge, edge}
use Rattle.ld_graph.specs.Reach.{IsReach, IsSource, PlainReach}
use Rattle.ld_graph.specs.Walks.{HasWalk}
use Rattle.ld_graph.proofs.NearLemmas.{get_or-push_default, within_of}
use Rattle.ld_graph.proofs.OnceLemmas.{IsDistinct-none, IsDistinct-one_more}
use Rattle.ld_graph.proofs.SpreadLemmas.{kept_marked, none_is, some_is, some_same}
use Rattle.ld_graph.proofs.WalkLemmas.{Far, IsWalk-Far, HasWalk-more, HasWalk-one, IsWalk-same}

abbrev pub is_marked : List Bool → ℕ → Type 0
is_marked marks x = get_or marks x false ≡ true

abbrev pub has_source : List (Option ℕ) → ℕ → Type 0
has_source sources x = is_some (get_or sources x None) ≡ true

-- a step of which none is ahead
not_ahead : {P : Type 0} → ⊥ ⊎ P → P
not_ahead (inl n) = absurd n
not_ahead (inr p) = p

module _ (step : ℕ → ℕ → Type 0) (seeds : List ℕ) where
  -- in an exact reach, what a marked class leads to has a source
  pub reach-closed : (reach : PlainReach) → IsReach step seeds reach → (x y : ℕ) → is_marked reach.marks x → step x y → has_source reach.sources y
  reach-closed reach exact x y marked h = by (get_or reach.sources y None) refl ((exact.marked x).0 marked)
    where
      none : get_or reach.sources y None ≡ None → Contains seeds x ⊎ (is_some (get_or reach.sources x None) ≡ true) → ⊥
      none is (inl seed) =
          subst (λ o. MatchOption o ((s : ℕ) → ¬ IsSource step seeds y s) (IsSource step seeds y)) is (exact.sources y) x (seed, HasWalk-one step x y h)
      none is (inr some) =
          let s = some_is (get_or reach.sources x None) some in
          let source : IsSource step seeds x s.0 = subst (λ o. MatchOption o ((s : ℕ) → ¬ IsSource step seeds x s) (IsSource step seeds x)) s.1 (exact.sources x) in
          subst (λ o. MatchOption o ((s : ℕ) → ¬ IsSource step seeds y s) (IsSource step seeds y)) is (exact.sources y) s.0 (source.0, HasWalk-more step s.0 x y source.1 h)

      by : (o : Option ℕ) → get_or reach.sources y None ≡ o → Contains seeds x ⊎ (is_some (get_or reach.sources x None) ≡ true) → has_source reach.sources y
      by None is why = absurd (none is why)
      by (Some s) is why = ap is_some is

  -- an exact reach is one at which no class waits
  pub reach-spread : (reach : PlainReach) → AreReached reach.sources reach.reached → IsReach step seeds reach
      → IsSpread step seeds none_ahead reach.sources reach.marks reach.reached (length reach.reached)
  reach-spread reach are exact = record {
    sound = λ x s is. subst (λ o. MatchOption o ((s : ℕ) → ¬ IsSource step seeds x s) (IsSource step seeds x)) is (exact.sources x);
    covered = λ i within. (exact.marked (get_or reach.reached i 0)).1 (inr ((are.each (get_or reach.reached i 0)).0 (Contains-get_or reach.reached i 0 within)));
    seeded = λ x seed. (exact.marked x).1 (inl seed);
    known = λ x marked. (exact.marked x).0 marked;
    closed = λ x y marked h. inr (reach-closed reach exact x y marked h);
  }

  module _ (sources : List (Option ℕ)) (marks : List Bool) (reached : List ℕ) (are : AreReached sources reached)
      (spread : IsSpread step seeds none_ahead sources marks reached (length reached)) where
    ended : (x : ℕ) → has_source sources x → is_marked marks x
    ended x has = let at = (are.each x).1 has in
        let within = at.1 in
        subst (is_marked marks) (get_or_default reached at.0 0 x within ∙ at.2) (spread.covered at.0 within)

    next : (x y : ℕ) → is_marked marks x → step x y → has_source sources y
    next x y marked h = not_ahead (spread.closed x y marked h)

    goes : (n : ℕ) (x y : ℕ) → is_marked marks x → Far step n x y → has_source sources y
    goes zero x y marked h = next x y marked h
    goes (suc n) x y marked h = goes n h.0 y (ended h.0 (next x h.0 marked h.1.0)) h.1.1

    -- when no class waits any more, the reach is exact
    pub spread-reach : (spare expanded : ℕ) → IsReach step seeds (record { sources = sources; marks = marks; reached = reached; spare = spare; expanded = expanded })
    spread-reach spare expanded = record {
      sources = λ c. by c (get_or sources c None) refl;
      marked = λ c. (spread.known c, λ why. back c why);
    }
      where
        by : (c : ℕ) (o : Option ℕ) → get_or sources c None ≡ o → MatchOption o ((s : ℕ) → ¬ IsSource step seeds c s) (IsSource step seeds c)
        by c None is = λ s source.
            let f = IsWalk-Far step s c source.1.0 source.1.1 in
            true≢false (sym (goes f.0 s c (spread.seeded s source.0) f.1.1) ∙ ap is_some is)
        by c (Some s) is = spread.sound c s is

        back : (c : ℕ) → Contains seeds c ⊎ has_source sources c → is_marked marks c
        back c (inl seed) = spread.seeded c seed
        back c (inr has) = ended c has

-- a mark that is on stays on where one is put on, and no other comes on
pub mark_stays : (marks : List Bool) (c x : ℕ) → is_marked marks x → is_marked (set marks c true) x
mark_stays marks c x on = by (cases_eq x c) (cases_lt x (length marks))
  where
    by : (x ≡ c) ⊎ (x ≢ c) → (x < length marks) ⊎ (length marks ≤ x) → is_marked (set marks c true) x
    by (inl same) (inl within) = ap (λ k. get_or (set marks c true) k false) same ∙ get_or-set_same marks c true false (omega (arith, same, within))
    by (inl same) (inr past) = absurd (true≢false (sym on ∙ get_or_past marks x false past))
    by (inr other) _ = get_or-set_other marks c x true false other ∙ on

pub mark_was : (marks : List Bool) (c x : ℕ) → is_marked (set marks c true) x → (x ≡ c) ⊎ is_marked marks x
mark_was marks c x on = elim (cases_eq x c) [
  | inl same ↦ inl same
  | inr other ↦ inr (sym (get_or-set_other marks c x true false other) ∙ on)
]

pub mark_on : (marks : List Bool) (c : ℕ) → c < length marks → is_marked (set marks c true) c
mark_on marks c within = get_or-set_same marks c true false within

module _ (step : ℕ → ℕ → Type 0) (seeds : List ℕ) where
  -- one class was given a source: the steps to it are gone
  module _ (ahead left : ℕ → ℕ → Type 0) (class from : ℕ) (sources : List (Option ℕ)) (marks : List Bool) (reached : List ℕ)
      (done : ℕ) (new : List (Option ℕ)) (more : List ℕ) (upto : done ≤ length reached) (spread : IsSpread step seeds ahead sources marks reached done)
      (source : IsSource step seeds class from) (within : class < length sources)
      (gone : (x y : ℕ) → ahead x y → left x y ⊎ (y ≡ class)) (given : IsGiven class from sources reached new more) where
    pub spread-given : IsSpread step seeds left new marks more done
    spread-given = by (get_or sources class None) refl
      where
        closed : (new : List (Option ℕ)) → ((x : ℕ) → has_source sources x → has_source new x) → has_source new class
            → (x y : ℕ) → ahead x y ⊎ has_source sources y → left x y ⊎ has_source new y
        closed new kept here x y (inl a) = elim (gone x y a) [
          | inl l ↦ inl l
          | inr same ↦ inr (subst (has_source new) (sym same) here)
        ]
        closed new kept here x y (inr has) = inr (kept y has)

        -- it had one
        had : has_source sources class → IsSpread step seeds left new marks more done
        had has =
            let same = given.had has in
            rw (same.0, same.1) (record {
              sound = spread.sound;
              covered = spread.covered;
              seeded = spread.seeded;
              known = spread.known;
              closed = λ x y marked h. closed sources (λ z s. s) has x y (spread.closed x y marked h);
            })

        -- it gets one
        gets : get_or sources class None ≡ None → IsSpread step seeds left new marks more done
        gets free = rw (given.gets free, given.waits free) (record {
          sound = λ x s is. sound x s is (cases_eq x class);
          covered = λ i low. subst (is_marked marks) (sym (get_or_append_left reached (class ∷ []) 0 i (omega (arith, low, upto)))) (spread.covered i low);
          seeded = spread.seeded;
          known = λ x marked. known x (spread.known x marked);
          closed = λ x y marked h. closed (set sources class (Some from)) kept here x y (spread.closed x y marked h);
        })
          where
            kept : (x : ℕ) → has_source sources x → has_source (set sources class (Some from)) x
            kept x has = let s = some_is (get_or sources x None) has in ap is_some (kept_marked sources class from free x s.0 s.1)

            here : has_source (set sources class (Some from)) class
            here = ap is_some (get_or-set_same sources class (Some from) None within)

            sound : (x s : ℕ) → get_or (set sources class (Some from)) x None ≡ Some s → (x ≡ class) ⊎ (x ≢ class) → IsSource step seeds x s
            sound x s is (inl same) =
                let equal : from ≡ s = some_same from s (sym (get_or-set_same sources class (Some from) None within) ∙ ap (λ k. get_or (set sources class (Some from)) k None) (sym same) ∙ is) in
                rw (same, sym equal) source
            sound x s is (inr other) = spread.sound x s (sym (get_or-set_other sources class x (Some from) None other) ∙ is)

            known : (x : ℕ) → Contains seeds x ⊎ has_source sources x → Contains seeds x ⊎ has_source (set sources class (Some from)) x
            known x (inl seed) = inl seed
            known x (inr has) = inr (kept x has)

        by : (o : Option ℕ) → get_or sources class None ≡ o → IsSpread step seeds left new marks more done
        by None is = gets is
        by (Some s) is = had (ap is_some is)

  -- the next class of those that wait comes to be expanded
  pub spread-popped : (class : ℕ) (sources : List (Option ℕ)) (marks : List Bool) (reached : List ℕ) (done : ℕ) → class ≡ get_or reached done 0
      → class < length marks → has_source sources class → IsSpread step seeds none_ahead sources marks reached done
      → IsSpread step seeds (all_ahead step class) sources (set marks class true) reached (done + 1)
  spread-popped class sources marks reached done is within has spread = record {
    sound = spread.sound;
    covered = below_more (λ i. is_marked (set marks class true) (get_or reached i 0)) done
        (λ i low. mark_stays marks class (get_or reached i 0) (spread.covered i low)) (subst (is_marked (set marks class true)) is (mark_on marks class within));
    seeded = λ x seed. mark_stays marks class x (spread.seeded x seed);
    known = λ x on. elim (mark_was marks class x on) [
      | inl same ↦ inr (ap (λ k. is_some (get_or sources k None)) same ∙ has)
      | inr m ↦ spread.known x m
    ];
    closed = λ x y on h. elim (mark_was marks class x on) [
      | inl same ↦ inl (same, h)
      | inr m ↦ inr (not_ahead (spread.closed x y m h))
    ];
  }

  -- one that was expanded before waits no more
  pub spread-passed : (class : ℕ) (sources : List (Option ℕ)) (marks : List Bool) (reached : List ℕ) (done : ℕ) → class ≡ get_or reached done 0 → is_marked marks class
      → IsSpread step seeds none_ahead sources marks reached done → IsSpread step seeds none_ahead sources marks reached (done + 1)
  spread-passed class sources marks reached done is on spread = record {
    sound = spread.sound;
    covered = below_more (λ i. is_marked marks (get_or reached i 0)) done spread.covered (subst (is_marked marks) is on);
    seeded = spread.seeded;
    known = spread.known;
    closed = spread.closed;
  }

  known_more : (class : ℕ) (sources : List (Option ℕ)) (x : ℕ) → Contains seeds x ⊎ has_source sources x
      → Contains (seeds ++ class ∷ []) x ⊎ has_source sources x
  known_more class sources x (inl seed) = inl (Contains-append_left seeds (class ∷ []) x seed)
  known_more class sources x (inr has) = inr has

  -- a class that was not expanded becomes a seed
  pub spread-seeded : (class : ℕ) (sources : List (Option ℕ)) (marks : List Bool) (reached : List ℕ) (done : ℕ) → class < length marks
      → IsSpread step seeds none_ahead sources marks reached done → IsSpread step (seeds ++ class ∷ []) (all_ahead step class) sources (set marks class true) reached done
  spread-seeded class sources marks reached done within spread = record {
    sound = λ x s is. let source = spread.sound x s is in (Contains-append_left seeds (class ∷ []) s source.0, source.1);
    covered = λ i low. mark_stays marks class (get_or reached i 0) (spread.covered i low);
    seeded = λ x seed. elim (Contains-push_cases seeds class x seed) [
      | inl old ↦ mark_stays marks class x (spread.seeded x old)
      | inr same ↦ subst (is_marked (set marks class true)) same (mark_on marks class within)
    ];
    known = λ x on. elim (mark_was marks class x on) [
      | inl same ↦ inl (subst (Contains (seeds ++ class ∷ [])) (sym same) (Contains-push seeds class))
      | inr m ↦ known_more class sources x (spread.known x m)
    ];
    closed = λ x y on h. elim (mark_was marks class x on) [
      | inl same ↦ inl (same, h)
      | inr m ↦ inr (not_ahead (spread.closed x y m h))
    ];
  }

  -- so does one that was
  pub spread-seeded_again : (class : ℕ) (sources : List (Option ℕ)) (marks : List Bool) (reached : List ℕ) (done : ℕ) → is_marked marks class
      → IsSpread step seeds none_ahead sources marks reached done → IsSpread step (seeds ++ class ∷ []) none_ahead sources marks reached done
  spread-seeded_again class sources marks reached done on spread = record {
    sound = λ x s is. let source = spread.sound x s is in (Contains-append_left seeds (class ∷ []) s source.0, source.1);
    covered = spread.covered;
    seeded = λ x seed. elim (Contains-push_cases seeds class x seed) [
      | inl old ↦ spread.seeded x old
      | inr same ↦ subst (is_marked marks) same on
    ];
    known = λ x m. known_more class sources x (spread.known x m);
    closed = spread.closed;
  }

-- with other steps, some of which are ahead
pub spread-longer : (step longer : ℕ → ℕ → Type 0) (seeds : List ℕ) (ahead left : ℕ → ℕ → Type 0) (sources : List (Option ℕ)) (marks : List Bool) (reached : List ℕ) (done : ℕ)
    → ((x y : ℕ) → step x y → longer x y) → ((x y : ℕ) → is_marked marks x → longer x y → step x y ⊎ left x y) → ((x y : ℕ) → ahead x y → left x y)
    → IsSpread step seeds ahead sources marks reached done → IsSpread longer seeds left sources marks reached done
spread-longer step longer seeds ahead left sources marks reached done to back still spread = record {
  sound = λ x s is. let source = spread.sound x s is in (source.0, (source.1.0, IsWalk-same step longer to s x source.1.0 source.1.1));
  covered = spread.covered;
  seeded = spread.seeded;
  known = spread.known;
  closed = λ x y on h. closed x y on (back x y on h);
}
  where
    closed : (x y : ℕ) → is_marked marks x → step x y ⊎ left x y → left x y ⊎ has_source sources y
    closed x y on (inr l) = inl l
    closed x y on (inl h) = by (spread.closed x y on h)
      where
        by : ahead x y ⊎ has_source sources y → left x y ⊎ has_source sources y
        by (inl a) = inl (still x y a)
        by (inr s) = inr s

-- all steps of a class are ahead at first, and none when its neighbours are gone
pub ahead-all : (near : List ℕ) (class x y : ℕ) → (x ≡ class) × Contains near y → ahead_from near class 0 x y
ahead-all near class x y h = (h.0, (h.1.0, (omega arith, h.1.1, get_or_default near h.1.0 0 y h.1.1 ∙ h.1.2)))

pub ahead-next : (near : List ℕ) (class k x y : ℕ) → ahead_from near class k x y → ahead_from near class (k + 1) x y ⊎ (y ≡ get_or near k 0)
ahead-next near class k x y h = elim (cases_eq h.1.0 k) [
  | inl same ↦ inr (sym h.1.1.2 ∙ ap (λ i. get_or near i 0) same)
  | inr other ↦ inl (h.0, (h.1.0, (omega (arith, h.1.1.0, other), h.1.1.1, h.1.1.2)))
]

pub ahead-none : (near : List ℕ) (class k x y : ℕ) → length near ≤ k → ahead_from near class k x y → none_ahead x y
ahead-none near class k x y past h = absurd (omega (arith, past, h.1.1.0, h.1.1.1))

-- a class that gets its source on the way of the one that is expanded
pub IsSource-next : (step : ℕ → ℕ → Type 0) (seeds : List ℕ) (class from next : ℕ) → Contains seeds from × ((from ≡ class) ⊎ HasWalk step from class) → step class next
    → IsSource step seeds next from
IsSource-next step seeds class from next why h = (why.0, by why.1)
  where
    by : (from ≡ class) ⊎ HasWalk step from class → HasWalk step from next
    by (inl same) = HasWalk-one step from next (subst (λ x. step x next) (sym same) h)
    by (inr walk) = HasWalk-more step from class next walk h

-- the source that a marked class hands on along a step
pub IsSource-along : (step : ℕ → ℕ → Type 0) (seeds : List ℕ) (ahead : ℕ → ℕ → Type 0) (sources : List (Option ℕ)) (marks : List Bool) (reached : List ℕ) (done a b : ℕ)
    → IsSpread step seeds ahead sources marks reached done → is_marked marks a → step a b → IsSource step seeds b (unwrap_or (get_or sources a None) a)
IsSource-along step seeds ahead sources marks reached done a b spread on h = by (get_or sources a None) refl
  where
    by : (o : Option ℕ) → get_or sources a None ≡ o → IsSource step seeds b (unwrap_or o a)
    by None is = seed (spread.known a on)
      where
        seed : Contains seeds a ⊎ has_source sources a → IsSource step seeds b a
        seed (inl s) = (s, HasWalk-one step a b h)
        seed (inr has) = absurd (true≢false (sym has ∙ ap is_some is))
    by (Some s) is = let source = spread.sound a s is in (source.0, HasWalk-more step s a b source.1 h)

-- an edge of a list with one more is one of the list or that one
pub IsEdge-cases : (before : List Edge) (a b x y : ℕ) → IsEdge (before ++ edge a b ∷ []) x y → IsEdge before x y ⊎ ((x ≡ a) × (y ≡ b))
IsEdge-cases before a b x y h = elim (Contains-push_cases before (edge a b) (edge x y) h) [
  | inl old ↦ inl old
  | inr same ↦ inr (ap (λ (e : Edge). e.from) (sym same), ap (λ (e : Edge). e.to) (sym same))
]

-- as many marks are seen as there are
pub marks_len : (r : Inside) (reach : PlainReach) → reach_of r ≡ reach → length r.marks.each ≡ length reach.marks
marks_len r reach is = ap (λ (s : PlainReach). length s.marks) is

-- with one edge more, from a class that was not expanded, nothing is ahead
pub spread-unmarked : (before : List Edge) (seeds : List ℕ) (reach : PlainReach) (a b : ℕ) → get_or reach.marks a false ≡ false → AreReached reach.sources reach.reached
    → IsReach (IsEdge before) seeds reach → IsSpread (IsEdge (before ++ edge a b ∷ [])) seeds none_ahead reach.sources reach.marks reach.reached (length reach.reached)
spread-unmarked before seeds reach a b off are exact =
    spread-longer (IsEdge before) (IsEdge (before ++ edge a b ∷ [])) seeds none_ahead none_ahead reach.sources reach.marks reach.reached (length reach.reached)
    (λ x y h. Contains-append_left before (edge a b ∷ []) (edge x y) h) (λ x y on h. by x y on (IsEdge-cases before a b x y h)) (λ x y h. h) (reach-spread (IsEdge before) seeds reach are exact)
  where
    by : (x y : ℕ) → is_marked reach.marks x → IsEdge before x y ⊎ ((x ≡ a) × (y ≡ b)) → IsEdge before x y ⊎ none_ahead x y
    by x y on (inl old) = inl old
    by x y on (inr new) = absurd (true≢false (sym on ∙ ap (λ k. get_or reach.marks k false) new.0 ∙ off))

-- with one edge more that step is ahead
pub spread-edge : (before : List Edge) (seeds : List ℕ) (reach : PlainReach) (a b : ℕ) → AreReached reach.sources reach.reached → IsReach (IsEdge before) seeds reach
    → IsSpread (IsEdge (before ++ edge a b ∷ [])) seeds (λ x y. (x ≡ a) × (y ≡ b)) reach.sources reach.marks reach.reached (length reach.reached)
spread-edge before seeds reach a b are exact =
    spread-longer (IsEdge before) (IsEdge (before ++ edge a b ∷ [])) seeds none_ahead (λ x y. (x ≡ a) × (y ≡ b)) reach.sources reach.marks reach.reached (length reach.reached)
    (λ x y h. Contains-append_left before (edge a b ∷ []) (edge x y) h) (λ x y on h. IsEdge-cases before a b x y h) (λ x y h. absurd h) (reach-spread (IsEdge before) seeds reach are exact)

-- a class more, without source or mark, leaves a reach exact
pub IsReach-added : (step : ℕ → ℕ → Type 0) (seeds : List ℕ) (reach : PlainReach) (spare : ℕ) → IsReach step seeds reach
    → IsReach step seeds (record { sources = reach.sources ++ None ∷ []; marks = reach.marks ++ false ∷ []; reached = reach.reached; spare = spare; expanded = reach.expanded })
IsReach-added step seeds reach spare exact = record {
  sources = λ c. rw (get_or-push_default reach.sources None c) (exact.sources c);
  marked = λ c. rw (get_or-push_default reach.marks false c, get_or-push_default reach.sources None c) (exact.marked c);
}

-- the front of the list stays
pub IsGiven-front : (class from : ℕ) (sources : List (Option ℕ)) (reached : List ℕ) (new : List (Option ℕ)) (more : List ℕ) (n : ℕ) → n ≤ length reached
    → IsGiven class from sources reached new more → (take n more ≡ take n reached) × (length reached ≤ length more)
IsGiven-front class from sources reached new more n within given = by (get_or sources class None) refl
  where
    by : (o : Option ℕ) → get_or sources class None ≡ o → (take n more ≡ take n reached) × (length reached ≤ length more)
    by (Some s) is = let same = (given.had (ap is_some is)).1 in (ap (take n) same, omega (arith, ap length same))
    by None is = let same = given.waits is in
        (ap (take n) same ∙ take-append-le n reached (class ∷ []) within, omega (arith, ap length same, length_push reached class))

-- a class of the list is one of the classes, and has a source
pub AreReached-has : (sources : List (Option ℕ)) (reached : List ℕ) → AreReached sources reached → (k d : ℕ) → k < length reached
    → has_source sources (get_or reached k d) × (get_or reached k d < length sources)
AreReached-has sources reached are k d within =
    let has = (are.each (get_or reached k d)).0 (Contains-get_or reached k d within) in
    (has, within_of sources (get_or reached k d) None (λ e. true≢false (sym has ∙ ap is_some e)))

-- the list is the same where a class is added
pub AreReached-added : (sources : List (Option ℕ)) (reached : List ℕ) → AreReached sources reached → AreReached (sources ++ None ∷ []) reached
AreReached-added sources reached are = record { once = are.once; each = λ c. rw (get_or-push_default sources None c) (are.each c) }

-- classes that were expanded, and then some more
pub expanded-then : (r : Reading) (m : Marked) (s : Sourced) (r' : Reading) (m' : Marked) (s' : Sourced) (r'' : Reading) (m'' : Marked) (s'' : Sourced)
    → AreExpanded r m s r' m' s' → AreExpanded r' m' s' r'' m'' s'' → AreExpanded r m s r'' m'' s''
expanded-then r m s r' m' s' r'' m'' s'' a b = record {
  lists = b.lists ∙ a.lists;
  read = omega (arith, a.read, b.read);
  counted = b.counted;
  len_marks = b.len_marks ∙ a.len_marks;
  room_marks = b.room_marks ∙ a.room_marks;
  stays = λ x on. b.stays x (a.stays x on);
  len = b.len ∙ a.len;
  room = b.room ∙ a.room;
  longer = omega (arith, a.longer, b.longer);
  front = λ n within. b.front n (omega (arith, within, a.longer)) ∙ a.front n within;
}

-- one more class in the list, which had no source and gets one
pub AreReached-given : (sources : List (Option ℕ)) (reached : List ℕ) (class from : ℕ) → AreReached sources reached → class < length sources
    → is_some (get_or sources class None) ≡ false → AreReached (set sources class (Some from)) (reached ++ class ∷ [])
AreReached-given sources reached class from are within free = record {
  once = IsDistinct-one_more reached class are.once (λ there. true≢false (sym ((are.each class).0 there) ∙ free));
  each = λ c. (λ there. to c (Contains-push_cases reached class c there), λ has. back c (cases_eq c class) has);
}
  where
    here : has_source (set sources class (Some from)) class
    here = ap is_some (get_or-set_same sources class (Some from) None within)

    to : (c : ℕ) → Contains reached c ⊎ (class ≡ c) → has_source (set sources class (Some from)) c
    to c (inr same) = subst (has_source (set sources class (Some from))) same here
    to c (inl there) =
        let s = some_is (get_or sources c None) ((are.each c).0 there) in
        ap is_some (kept_marked sources class from (none_is (get_or sources class None) free) c s.0 s.1)

    back : (c : ℕ) → (c ≡ class) ⊎ (c ≢ class) → has_source (set sources class (Some from)) c → Contains (reached ++ class ∷ []) c
    back c (inl same) _ = subst (Contains (reached ++ class ∷ [])) (sym same) (Contains-push reached class)
    back c (inr other) has = Contains-append_left reached (class ∷ []) c
        ((are.each c).1 (sym (ap is_some (get_or-set_other sources class c (Some from) None other)) ∙ has))

-- no class has a source where there is none
pub AreReached-none : AreReached [] []
AreReached-none = record {
  once = IsDistinct-none;
  each = λ c. (
    λ there. absurd (omega (arith, there.1)),
    λ has. absurd (true≢false (sym has ∙ past c)),
  );
}
  where
    empty : List (Option ℕ)
    empty = []

    past : (c : ℕ) → is_some (get_or empty c None) ≡ false
    past c = ap is_some (get_or_past empty c None (omega arith))
