-- Rows that are collected, some keys at a time.
use Rattle.std.proofs.Common.{Option, Some, None, is_some, false, ◌≡◌, ◌⊎◌, inl, inr, ◌+◌, ◌-◌, ◌<◌, ◌≤◌, ◌++◌, ◌∷◌, [], List, ℕ, All, AllPairs, Any}
use Rattle.std.proofs.Common.{length, get_or, refl, sym, ap, subst, ◌∙◌, arith, length-append}
use Rattle.std.proofs.lemmas.Bool.{cases_lt, true≢false}
use Rattle.std.proofs.lemmas.List.{get_or_append_left, get_or-append_right}
use Rattle.std.proofs.lemmas.List.Elements.{All-append, All-cons, All-nil, All-weaker}
use Rattle.ld_trace.specs.declared.event.State.{State}
use Rattle.ld_trace.specs.declared.event.State.TheVariants.{Hard, Soft}
use Rattle.ld_union.specs.Findings.{AreRows, InTurn, IsHarder}
use Rattle.ld_union.specs.Inner.Rows.{AreRowsOf}

module _ {X : Type 0} (P : X → Type 0) (xs ys : List X) where
  Any-append_left : Any P xs → Any P (xs ++ ys)
  Any-append_left h = (h.0, h.1, omega (arith, h.2, length-append xs ys), get_or_append_left xs ys h.1 h.0 h.2 ∙ h.3, h.4)

  Any-append_right : Any P ys → Any P (xs ++ ys)
  Any-append_right h =
      let place : length xs + h.0 - length xs ≡ h.0 = omega arith in
      (length xs + h.0, h.1, omega (arith, h.2, length-append xs ys), get_or-append_right xs ys (length xs) (length xs + h.0) h.1 refl (omega arith) ∙ ap (λ k. get_or ys k h.1) place ∙ h.3, h.4)

module _ {X : Type 0} (R : X → X → Type 0) (xs ys : List X) where
  AllPairs-append : AllPairs R xs → AllPairs R ys → All (λ x. All (λ y. R x y) ys) xs → AllPairs R (xs ++ ys)
  AllPairs-append front back across i j d before within = by (cases_lt i (length xs)) (cases_lt j (length xs))
    where
      at_left : (k : ℕ) → k < length xs → get_or xs k d ≡ get_or (xs ++ ys) k d
      at_left k low = sym (get_or_append_left xs ys d k low)

      at_right : (k : ℕ) → length xs ≤ k → get_or ys (k - length xs) d ≡ get_or (xs ++ ys) k d
      at_right k past = sym (get_or-append_right xs ys (length xs) k d refl past)

      by : (i < length xs) ⊎ (length xs ≤ i) → (j < length xs) ⊎ (length xs ≤ j) → R (get_or (xs ++ ys) i d) (get_or (xs ++ ys) j d)
      by (inl a) (inl b) = subst (λ x. R x (get_or (xs ++ ys) j d)) (at_left i a) (subst (λ y. R (get_or xs i d) y) (at_left j b) (front i j d before b))
      by (inl a) (inr b) =
          let low : j - length xs < length ys = omega (arith, b, within, length-append xs ys) in
          subst (λ x. R x (get_or (xs ++ ys) j d)) (at_left i a) (subst (λ y. R (get_or xs i d) y) (at_right j b) (across i d a (j - length xs) d low))
      by (inr a) (inl b) = absurd (omega (arith, a, b, before))
      by (inr a) (inr b) =
          let low : j - length xs < length ys = omega (arith, b, within, length-append xs ys) in
          let less : i - length xs < j - length xs = omega (arith, a, before) in
          subst (λ x. R x (get_or (xs ++ ys) j d)) (at_right i a) (subst (λ y. R (get_or ys (i - length xs) d) y) (at_right j b) (back (i - length xs) (j - length xs) d less low))

-- nothing was found
pub None_from_is_some : {A : Type 0} (o : Option A) → is_some o ≡ false → o ≡ None
None_from_is_some None absent = refl
None_from_is_some (Some x) absent = absurd (true≢false absent)

module _ {Row Key : Type 0} (key : Row → Key) (IsRow : Row → Type 0) (IsOwed : Key → Type 0) (before : Key → Key → Type 0) where
  -- no row at all, where none is owed
  pub rows-absent : ((k : Key) → ¬ IsOwed k) → AreRows key IsRow IsOwed before []
  rows-absent none = record {
    each = All-nil IsRow;
    all = λ k owed. absurd (none k owed);
    ordered = λ i j d less within. absurd (omega (arith, within));
  }

  -- no row, where none is owed
  pub rows-none : (these : Key → Type 0) → ((k : Key) → IsOwed k → these k → ⊥) → AreRowsOf key IsRow IsOwed before these []
  rows-none these none = record {
    each = All-nil (λ row. IsRow row × these (key row));
    all = λ k owed. absurd (none k owed.0 owed.1);
    ordered = λ i j d less within. absurd (omega (arith, within));
  }

  -- the row of one key
  pub rows-one : (k : Key) (row : Row) → IsRow row → key row ≡ k → AreRowsOf key IsRow IsOwed before (λ l. l ≡ k) (row ∷ [])
  rows-one k row is of = record {
    each = All-cons (λ r. IsRow r × (key r ≡ k)) row [] (is, of) (All-nil (λ r. IsRow r × (key r ≡ k)));
    all = λ l owed. (0, row, omega arith, refl, of ∙ sym owed.1);
    ordered = λ i j d less within. absurd (omega (arith, less, within));
  }

  -- no row, where it isn't owed
  pub rows-not : (k : Key) → ¬ IsOwed k → AreRowsOf key IsRow IsOwed before (λ l. l ≡ k) []
  rows-not k not = rows-none (λ l. l ≡ k) (λ l owed is. not (subst IsOwed is owed))

  -- the rows of some keys, and then those of keys that come after these
  pub rows-append : (these those both : Key → Type 0) (xs ys : List Row)
      → ((k l : Key) → these k → those l → before k l) → ((k : Key) → these k → both k) → ((k : Key) → those k → both k) → ((k : Key) → IsOwed k → both k → these k ⊎ those k)
      → AreRowsOf key IsRow IsOwed before these xs → AreRowsOf key IsRow IsOwed before those ys → AreRowsOf key IsRow IsOwed before both (xs ++ ys)
  rows-append these those both xs ys across front back cases first second = record {
    each = All-append (λ r. IsRow r × both (key r)) xs ys
        (All-weaker (λ r. IsRow r × these (key r)) (λ r. IsRow r × both (key r)) (λ r h. (h.0, front (key r) h.1)) xs first.each)
        (All-weaker (λ r. IsRow r × those (key r)) (λ r. IsRow r × both (key r)) (λ r h. (h.0, back (key r) h.1)) ys second.each);
    all = λ k owed. by k owed.0 (cases k owed.0 owed.1);
    ordered = AllPairs-append (λ r s. before (key r) (key s)) xs ys first.ordered second.ordered
        (λ i d low j e below. across (key (get_or xs i d)) (key (get_or ys j e)) (first.each i d low).1 (second.each j e below).1);
  }
    where
      by : (k : Key) → IsOwed k → these k ⊎ those k → Any (λ row. key row ≡ k) (xs ++ ys)
      by k owed (inl here) = Any-append_left (λ row. key row ≡ k) xs ys (first.all k (owed, here))
      by k owed (inr there) = Any-append_right (λ row. key row ≡ k) xs ys (second.all k (owed, there))

  -- the same rows, where the same keys are owed
  pub rows-same : (these those : Key → Type 0) (rows : List Row) → ((k : Key) → these k → those k) → ((k : Key) → IsOwed k → those k → these k)
      → AreRowsOf key IsRow IsOwed before these rows → AreRowsOf key IsRow IsOwed before those rows
  rows-same these those rows wider back are = record {
    each = All-weaker (λ r. IsRow r × these (key r)) (λ r. IsRow r × those (key r)) (λ r h. (h.0, wider (key r) h.1)) rows are.each;
    all = λ k owed. are.all k (owed.0, back k owed.0 owed.1);
    ordered = are.ordered;
  }

  -- the rows of all keys
  pub rows-all : (these : Key → Type 0) (rows : List Row) → ((k : Key) → IsOwed k → these k) → AreRowsOf key IsRow IsOwed before these rows → AreRows key IsRow IsOwed before rows
  rows-all these rows every are = record {
    each = All-weaker (λ r. IsRow r × these (key r)) IsRow (λ r h. h.0) rows are.each;
    all = λ k owed. are.all k (owed, every k owed);
    ordered = are.ordered;
  }

module _ {Row A : Type 0} (key : Row → State × A) (IsRow : Row → Type 0) (IsOwed : State × A → Type 0) (second : A → A → Type 0) where
  -- the rows of hard, and then those of soft
  pub rows-states : (xs ys : List Row) → AreRowsOf key IsRow IsOwed (InTurn IsHarder second) (λ k. k.0 ≡ Hard) xs → AreRowsOf key IsRow IsOwed (InTurn IsHarder second) (λ k. k.0 ≡ Soft) ys
      → AreRows key IsRow IsOwed (InTurn IsHarder second) (xs ++ ys)
  rows-states xs ys hard soft =
      rows-all key IsRow IsOwed (InTurn IsHarder second) (λ k. (k.0 ≡ Hard) ⊎ (k.0 ≡ Soft)) (xs ++ ys) (λ k owed. either k.0)
      (rows-append key IsRow IsOwed (InTurn IsHarder second) (λ k. k.0 ≡ Hard) (λ k. k.0 ≡ Soft) (λ k. (k.0 ≡ Hard) ⊎ (k.0 ≡ Soft)) xs ys
      (λ k l here there. inl (subst (λ s. IsHarder s l.0) (sym here) (subst (IsHarder Hard) (sym there) (omega arith))))
      (λ k here. inl here) (λ k there. inr there) (λ k owed both. both) hard soft)
    where
      either : (state : State) → (state ≡ Hard) ⊎ (state ≡ Soft)
      either Hard = inl refl
      either Soft = inr refl
