-- Sources have one list of findings.
use Rattle.std.proofs.Common.{◌≡◌, ◌≢◌, ◌+◌, ◌∙◌, ◌⊎◌, inl, inr, true, false, Bool, List, ℕ, zero, suc, [], ◌∷◌, AllPairs, Contains, Ordering, Less}
use Rattle.std.proofs.Common.{Equal, Greater, Some, Option, unwrap_or, arith, refl, sym, ap, subst}
use Rattle.std.proofs.lemmas.Bool.{true≢false}
use Rattle.std.specs.Ordering.{ordering_reverse}
use Rattle.ld_class.specs.Names.{PlainClass, same_class}
use Rattle.ld_class.proofs.NameLemmas.{same_class-Decides}
use Rattle.ld_trace.specs.declared.event.State.{State}
use Rattle.ld_trace.specs.Sources.{PlainSource}
use Rattle.ld_graph.specs.Walks.{IsDistance, IsShownWalk, ShownFrom}
use Rattle.ld_rules.specs.Union.{dependency_witness, use_witness}
use Rattle.ld_rules.specs.Usage.Bit.{In, On}
use Rattle.ld_union.specs.Findings.{AreFindings, AreRows, InTurn, IsBefore, IsConflictRow, IsCycleRow, IsForbiddenRow, IsHarder, IsPairBefore, IsShown}
use Rattle.ld_union.specs.Findings.{PlainConflictRow, PlainCycleRow, PlainFindings, PlainForbiddenRow, conflict_key, cycle_key, forbidden_key}
use Rattle.ld_union.specs.Findings.{shown_marks}
use Rattle.ld_union.specs.Violations.{Depends, IsConflict, IsCycle, IsForbidden}
use Rattle.ld_union.proofs.NameOrderLemmas.{before_from_less, class_cmp, class_cmp_total, not_before_both, same_from_equal}

module _ {X : Type 0} (R : X → X → Type 0) (apart : (x y : X) → R x y → ¬ R y x) where
  ordered-tail : (x : X) (xs : List X) → AllPairs R (x ∷ xs) → AllPairs R xs
  ordered-tail x xs ordered i j d lower within = ordered (suc i) (suc j) d (omega (arith, lower)) (omega (arith, within))

  -- the first comes before each of the others
  first-before : (x : X) (xs : List X) → AllPairs R (x ∷ xs) → (z : X) → Contains xs z → R x z
  first-before x xs ordered z (k, within, is) = subst (R x) is (ordered 0 (suc k) z (omega arith) (omega (arith, within)))

  -- what a list of some has behind its first
  others : (x y : X) (xs ys : List X) → x ≡ y → AllPairs R (x ∷ xs) → ((z : X) → Contains (x ∷ xs) z → Contains (y ∷ ys) z) → (z : X) → Contains xs z → Contains ys z
  others x y xs ys same ordered to z (k, within, is) = by (to z (suc k, omega (arith, within), is))
    where
      after : R x z
      after = first-before x xs ordered z (k, within, is)

      by : Contains (y ∷ ys) z → Contains ys z
      by (zero, below, here) = let itself : R x x = subst (R x) (sym (same ∙ here)) after in absurd (apart x x itself itself)
      by (suc l, below, here) = (l, omega (arith, below), here)

  -- two lists in order that have the same are equal
  pub ordered-same : (xs ys : List X) → AllPairs R xs → AllPairs R ys → ((z : X) → Contains xs z → Contains ys z) → ((z : X) → Contains ys z → Contains xs z) → xs ≡ ys
  ordered-same [] [] in_xs in_ys to from = refl
  ordered-same [] (y ∷ ys) in_xs in_ys to from = absurd (omega (arith, (from y (0, omega arith, refl)).1))
  ordered-same (x ∷ xs) [] in_xs in_ys to from = absurd (omega (arith, (to x (0, omega arith, refl)).1))
  ordered-same (x ∷ xs) (y ∷ ys) in_xs in_ys to from =
      λ i. first i ∷ ordered-same xs ys (ordered-tail x xs in_xs) (ordered-tail y ys in_ys) (others x y xs ys first in_xs to) (others y x ys xs (sym first) in_ys from) i
    where
      by : Contains (y ∷ ys) x → Contains (x ∷ xs) y → x ≡ y
      by (zero, below, here) there = sym here
      by (suc k, below, here) (zero, above, there) = there
      by (suc k, below, here) (suc l, above, there) =
          absurd (apart x y (first-before x xs in_xs y (l, omega (arith, above), there)) (first-before y ys in_ys x (k, omega (arith, below), here)))

      first : x ≡ y
      first = by (to x (0, omega arith, refl)) (from y (0, omega arith, refl))

-- rows that are owed are the only ones, where a row is told by its key
module _ {Row Key : Type 0} (key : Row → Key) (IsRow : Row → Type 0) (IsOwed : Key → Type 0) (before : Key → Key → Type 0)
    (apart : (k l : Key) → before k l → ¬ before l k) (owed : (r : Row) → IsRow r → IsOwed (key r))
    (same : (r s : Row) → IsRow r → IsRow s → key r ≡ key s → r ≡ s) where
  there : (rs ss : List Row) → AreRows key IsRow IsOwed before rs → AreRows key IsRow IsOwed before ss → (r : Row) → Contains rs r → Contains ss r
  there rs ss p q r (k, within, is) =
      let row : IsRow r = subst IsRow is (p.each k r within) in
      let found = q.all (key r) (owed r row) in
      let other : IsRow found.1 = subst IsRow found.3 (q.each found.0 found.1 found.2) in
      subst (Contains ss) (same found.1 r other row found.4) (found.0, found.2, found.3)

  pub rows-unique : (rs ss : List Row) → AreRows key IsRow IsOwed before rs → AreRows key IsRow IsOwed before ss → rs ≡ ss
  rows-unique rs ss p q = ordered-same (λ r s. before (key r) (key s)) (λ r s. apart (key r) (key s)) rs ss p.ordered q.ordered (there rs ss p q) (there ss rs q p)

-- of two in turn at most one comes before the other
in_turn-apart : {A B : Type 0} (first : A → A → Type 0) (second : B → B → Type 0) → ((a b : A) → first a b → ¬ first b a) → ((a b : B) → second a b → ¬ second b a)
    → (p q : A × B) → InTurn first second p q → ¬ InTurn first second q p
in_turn-apart first second one two p q (inl f) (inl g) = one p.0 q.0 f g
in_turn-apart first second one two p q (inl f) (inr (e, g)) = let itself : first p.0 p.0 = subst (first p.0) e f in one p.0 p.0 itself itself
in_turn-apart first second one two p q (inr (e, f)) (inl g) = let itself : first q.0 q.0 = subst (first q.0) e g in one q.0 q.0 itself itself
in_turn-apart first second one two p q (inr (e, f)) (inr (h, g)) = two p.1 q.1 f g

harder-apart : (s t : State) → IsHarder s t → ¬ IsHarder t s
harder-apart s t f g = omega (arith, f, g)

pair-apart : (p q : PlainClass × PlainClass) → IsPairBefore p q → ¬ IsPairBefore q p
pair-apart = in_turn-apart IsBefore IsBefore not_before_both not_before_both

-- of two names one comes before the other, or they are equal
names-compare : (a b : PlainClass) → (a ≡ b) ⊎ (IsBefore a b ⊎ IsBefore b a)
names-compare a b = by (class_cmp a b) refl
  where
    by : (r : Ordering) → class_cmp a b ≡ r → (a ≡ b) ⊎ (IsBefore a b ⊎ IsBefore b a)
    by Less e = inr (inl (before_from_less a b e))
    by Equal e = inl (same_from_equal a b e)
    by Greater e = inr (inr (before_from_less b a (class_cmp_total.antisymm b a ∙ ap ordering_reverse e)))

-- shown walks, over a relation by which any two that differ are in order
module _ {A : Type 0} (step before : A → A → Type 0) (compare : (x y : A) → (x ≡ y) ⊎ (before x y ⊎ before y x)) where
  distance-same : (a b : A) (m n : ℕ) → IsDistance step a b m → IsDistance step a b n → m ≡ n
  distance-same a b m n p q =
      let up = p.least q.reached.0 q.reached.1.0 in
      let down = q.least p.reached.0 p.reached.1.0 in
      omega (arith, up, down, p.reached.1.1, q.reached.1.1)

  shown_from-same : (a b : A) (v w : List A) → ShownFrom step before a b v → ShownFrom step before a b w → v ≡ w
  shown_from-same a b [] w p q = absurd p
  shown_from-same a b (x ∷ v) [] p q = absurd q
  shown_from-same a b (x ∷ []) (y ∷ []) p q = λ i. (p.1 ∙ sym q.1) i ∷ []
  shown_from-same a b (x ∷ []) (y ∷ z ∷ w) p q = absurd (omega (arith, distance-same a b 1 (q.0.0 + 2) p.0 q.0.1.0))
  shown_from-same a b (x ∷ z ∷ v) (y ∷ []) p q = absurd (omega (arith, distance-same a b (p.0.0 + 2) 1 p.0.1.0 q.0))
  shown_from-same a b (x ∷ u ∷ v) (y ∷ z ∷ w) p q =
      λ i. first i ∷ shown_from-same x b (u ∷ v) (z ∷ w) p.1 (subst (λ c. ShownFrom step before c b (z ∷ w)) (sym first) q.1) i
    where
      far : p.0.0 ≡ q.0.0
      far = omega (arith, distance-same a b (p.0.0 + 2) (q.0.0 + 2) p.0.1.0 q.0.1.0)

      by : (x ≡ y) ⊎ (before x y ⊎ before y x) → x ≡ y
      by (inl same) = same
      by (inr (inl less)) = absurd (q.0.1.1.least x p.0.1.1.successor (subst (λ n. IsDistance step x b (n + 1)) far p.0.1.1.nearer) less)
      by (inr (inr more)) = absurd (p.0.1.1.least y q.0.1.1.successor (subst (λ n. IsDistance step y b (n + 1)) (sym far) q.0.1.1.nearer) more)

      first : x ≡ y
      first = by (compare x y)

  pub shown-same : (a b : A) (v w : List A) → IsShownWalk step before a b v → IsShownWalk step before a b w → v ≡ w
  shown-same a b [] w p q = absurd p
  shown-same a b (x ∷ v) [] p q = absurd q
  shown-same a b (x ∷ v) (y ∷ w) p q = λ i. (p.0 ∙ sym q.0) i ∷ shown_from-same a b v w p.1 q.1 i

-- what stands in a `Some`
some-same : {A : Type 0} {o : Option A} {a b : A} → o ≡ Some a → o ≡ Some b → a ≡ b
some-same {a = a} p q = ap (λ o. unwrap_or o a) (sym p ∙ q)

module _ (sources : List PlainSource) where
  walk-same : (a b c d : PlainClass) (v w : List PlainClass) → a ≡ c → b ≡ d → IsShown sources a b v → IsShown sources c d w → v ≡ w
  walk-same a b c d v w ac bd p q =
      shown-same (Depends sources) IsBefore names-compare a b v w p
      (subst (λ x. IsShown sources x b w) (sym ac) (subst (λ y. IsShown sources c y w) (sym bd) q))

  cycle-same : (r s : PlainCycleRow) → IsCycleRow sources r → IsCycleRow sources s → cycle_key r ≡ cycle_key s → r ≡ s
  cycle-same r s p q key = λ i. record { from = from i; to = to i; at = at i; via = via (same_class r.from r.to) refl i }
    where
      from : r.from ≡ s.from
      from = ap (λ k. k.0) key

      to : r.to ≡ s.to
      to = ap (λ k. k.1) key

      at : r.at ≡ s.at
      at = some-same p.at (ap (λ k. dependency_witness sources (record { from = k.0; to = k.1 })) key ∙ q.at)

      via : (b : Bool) → same_class r.from r.to ≡ b → r.via ≡ s.via
      via true same =
          let equal = (same_class-Decides r.from r.to).0 same in
          p.recursion equal ∙ sym (q.recursion (sym from ∙ equal ∙ to))
      via false apart =
          let differ : r.from ≢ r.to = λ equal. true≢false (sym ((same_class-Decides r.from r.to).1 equal) ∙ apart) in
          walk-same r.to r.from s.to s.from r.via s.via to from (p.shown differ) (q.shown (λ equal. differ (from ∙ equal ∙ sym to)))

  conflict-same : (r s : PlainConflictRow) → IsConflictRow sources r → IsConflictRow sources s → conflict_key r ≡ conflict_key s → r ≡ s
  conflict-same r s p q key = λ i. record { state = (key i).0; class = (key i).1; marks = marks i; safe_at = safe_at i; unsafe_at = unsafe_at i }
    where
      marks : r.marks ≡ s.marks
      marks = p.marks ∙ ap (λ k. shown_marks sources k.1) key ∙ sym q.marks

      safe_at : r.safe_at ≡ s.safe_at
      safe_at = some-same p.safe_at (ap (λ k. use_witness sources (record { class = k.1; bit = In k.0 })) key ∙ q.safe_at)

      unsafe_at : r.unsafe_at ≡ s.unsafe_at
      unsafe_at = some-same p.unsafe_at (ap (λ k. use_witness sources (record { class = k.1; bit = On k.0 })) key ∙ q.unsafe_at)

  forbidden-same : (r s : PlainForbiddenRow) → IsForbiddenRow sources r → IsForbiddenRow sources s → forbidden_key r ≡ forbidden_key s → r ≡ s
  forbidden-same r s p q key = λ i. record {
    state = (key i).0;
    from = (key i).1.0;
    from_marks = from_marks i;
    safe_at = safe_at i;
    to = (key i).1.1;
    to_marks = to_marks i;
    unsafe_at = unsafe_at i;
    via = via i;
  }
    where
      from_marks : r.from_marks ≡ s.from_marks
      from_marks = p.from_marks ∙ ap (λ k. shown_marks sources k.1.0) key ∙ sym q.from_marks

      to_marks : r.to_marks ≡ s.to_marks
      to_marks = p.to_marks ∙ ap (λ k. shown_marks sources k.1.1) key ∙ sym q.to_marks

      safe_at : r.safe_at ≡ s.safe_at
      safe_at = some-same p.safe_at (ap (λ k. use_witness sources (record { class = k.1.0; bit = In k.0 })) key ∙ q.safe_at)

      unsafe_at : r.unsafe_at ≡ s.unsafe_at
      unsafe_at = some-same p.unsafe_at (ap (λ k. use_witness sources (record { class = k.1.1; bit = On k.0 })) key ∙ q.unsafe_at)

      via : r.via ≡ s.via
      via = walk-same r.from r.to s.from s.to r.via s.via (ap (λ k. k.1.0) key) (ap (λ k. k.1.1) key) p.shown q.shown

  -- sources have these findings alone
  pub findings-same : (f g : PlainFindings) → AreFindings sources f → AreFindings sources g → f ≡ g
  findings-same f g p q = λ i. record { cycles = cycles i; conflicts = conflicts i; forbidden = forbidden i }
    where
      cycles : f.cycles ≡ g.cycles
      cycles = rows-unique cycle_key (IsCycleRow sources) (λ k. IsCycle sources k.0 k.1) IsPairBefore pair-apart (λ r row. row.cycle) cycle-same f.cycles g.cycles p.cycles q.cycles

      conflicts : f.conflicts ≡ g.conflicts
      conflicts = rows-unique conflict_key (IsConflictRow sources) (λ k. IsConflict sources k.0 k.1) (InTurn IsHarder IsBefore)
          (in_turn-apart IsHarder IsBefore harder-apart not_before_both) (λ r row. row.conflict) conflict-same f.conflicts g.conflicts p.conflicts q.conflicts

      forbidden : f.forbidden ≡ g.forbidden
      forbidden = rows-unique forbidden_key (IsForbiddenRow sources) (λ k. IsForbidden sources k.0 k.1.0 k.1.1) (InTurn IsHarder IsPairBefore)
          (in_turn-apart IsHarder IsPairBefore harder-apart pair-apart) (λ r row. row.forbidden) forbidden-same f.forbidden g.forbidden p.forbidden q.forbidden
