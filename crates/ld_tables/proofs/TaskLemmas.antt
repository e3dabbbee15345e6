-- The names of a trace's tasks, among all that are known.
use Rattle.std.proofs.Common.{◌≡◌, ◌≢◌, ◌<◌, ◌≤◌, ◌+◌, ◌⊎◌, ◌++◌, ◌∙◌, Bool, true, false, ℕ, List, [], ◌∷◌}
use Rattle.std.proofs.Common.{Option, Some, None, inl, inr, cond, not, ltb, map, length, nat_eq, slice_index_or}
use Rattle.std.proofs.Common.{get_or, refl, ap, sym, subst, arith, length-append, true≢false}
use Rattle.std.proofs.Math.ListN as list
use Rattle.std.proofs.lemmas.Bool.{cases_order, eq-eqb, eqb-true, false_from_ne_true}
use Rattle.std.proofs.lemmas.Bool.Decides.{same_from_decides}
use Rattle.std.proofs.lemmas.List.{length-map, get_or-map, get_or_append_left, map-append}
use Rattle.std.proofs.lemmas.List.Elements.{All-head, All-tail, All-push}
use Rattle.std.proofs.lemmas.List.Folds.{list_any_at}
use Rattle.std.proofs.lemmas.List.Quantifiers.{position-Some}
use Rattle.std.proofs.lemmas.Slice.Eq.{bytes_eq-Decides}
use Rattle.std.specs.List.{All, AllPairs, list_any, position, position_or_len}
use Rattle.std.specs.Str.{bytes_eq}
use Rattle.ld_class.specs.Names.{AreDistinct, AreDistinctTasks, IsNameAt, IsTaskAt, PlainClass, class_of_task}
use Rattle.ld_class.specs.Names.{no_class, place_of, place_of_task, same_class, with_name, with_task}
use Rattle.ld_class.proofs.AnyNames.{apart-with_one, with_one-new}
use Rattle.ld_class.proofs.Mapped.{position-map}
use Rattle.ld_class.proofs.NameLemmas.{place_of-None, place_of-Some, place_of-at, same_class-Decides, tasks_of}
use Rattle.ld_class.proofs.NameLemmas.{tasks_of-classes, with_name-classes, with_name-known}
use Rattle.ld_tables.specs.Inner.Tasks.{AreTasksAmong, tasks_at}

-- two tests that agree on a list find the same place
module _ {X : Type 0} (p q : X → Bool) where
  ends-alike : (xs : List X) → All (λ x. p x ≡ q x) xs → position_or_len p xs ≡ position_or_len q xs
  ends-alike [] _ = refl
  ends-alike (x ∷ xs) alike =
      λ i. cond (not (All-head (λ x. p x ≡ q x) x xs alike i)) (1 + ends-alike xs (All-tail (λ x. p x ≡ q x) x xs alike) i) 0

  position-alike : (xs : List X) → All (λ x. p x ≡ q x) xs → position p xs ≡ position q xs
  position-alike xs alike = ap (λ n. cond (ltb n (length xs)) (Some n) None) (ends-alike xs alike)

-- where no number passes the test, none is found
position-none : (p : ℕ → Bool) (xs : List ℕ) → All (λ x. p x ≡ false) xs → position p xs ≡ None
position-none p xs none = by (position p xs) refl
  where
    by : (r : Option ℕ) → position p xs ≡ r → position p xs ≡ None
    by None h = h
    by (Some i) h =
        let at = position-Some p xs i 0 h in
        absurd (true≢false (sym at.1 ∙ none i 0 at.0))

-- a number that isn't there is not found
pub position-absent : (n : ℕ) (xs : List ℕ) → list_any (nat_eq n) xs ≡ false → position (nat_eq n) xs ≡ None
position-absent n xs absent =
    position-none (nat_eq n) xs (λ i d inside. false_from_ne_true (nat_eq n (get_or xs i d)) (λ is.
    true≢false (sym (list_any_at (nat_eq n) xs i d inside is) ∙ absent)))

module _ (most : ℕ) (known : List PlainClass) (here : List ℕ) (are : AreTasksAmong most known here) where
  abbrev named : ℕ → List ℕ
  named n = (slice_index_or known n no_class).name

  -- whatever is known is named as a task is
  as_task : (n : ℕ) → slice_index_or known n no_class ≡ class_of_task (named n)
  as_task n =
      ap (λ names. slice_index_or names n no_class) are.named
      ∙ list.get_or-map class_of_task (tasks_of known) n []
      ∙ ap class_of_task (list.get_or-map (λ class. class.name) known n no_class)

  -- no task of the trace stands twice
  pub apart : AllPairs (λ a b. a ≢ b) here → AreDistinctTasks (tasks_at known here)
  apart differ i j name at_i at_j = by (cases_order i j)
    where
      at : (k : ℕ) → IsTaskAt (tasks_at known here) k name
          → (k < length here) × IsNameAt known (get_or here k 0) (class_of_task name)
      at k h =
          let inside : k < length here = omega (arith, h.0, length-map here named) in
          let is : named (get_or here k 0) ≡ name = sym (get_or-map named here k 0 [] inside) ∙ h.1 in
          (inside, (are.within k 0 inside, as_task (get_or here k 0) ∙ ap class_of_task is))

      one : get_or here i 0 ≡ get_or here j 0
      one = are.distinct (get_or here i 0) (get_or here j 0) (class_of_task name) (at i at_i).1 (at j at_j).1

      by : (i ≡ j) ⊎ ((i < j) ⊎ (j < i)) → i ≡ j
      by (inl equal) = equal
      by (inr (inl before)) = absurd (differ i j 0 before (at j at_j).0 one)
      by (inr (inr after)) = absurd (differ j i 0 after (at i at_i).0 (sym one))

  module _ (name : List ℕ) where
    -- a task that isn't known is none of the trace
    pub place-unknown : place_of known (class_of_task name) ≡ None → place_of_task (tasks_at known here) name ≡ None
    place-unknown unknown =
        position-map named (bytes_eq name) here
        ∙ position-none (λ n. bytes_eq name (named n)) here (λ k d inside.
        false_from_ne_true (bytes_eq name (named (get_or here k d))) (λ same.
        let is : name ≡ named (get_or here k d) = (bytes_eq-Decides name (named (get_or here k d))).0 same in
        place_of-None known (class_of_task name) (get_or here k d) unknown
        (are.within k d inside, as_task (get_or here k d) ∙ ap class_of_task (sym is))))

    -- one that is known has the place of its number
    module _ (number : ℕ) (at : place_of known (class_of_task name) ≡ Some number) where
      -- the test of names and the test of numbers agree
      agree : (n : ℕ) → n < length known → bytes_eq name (named n) ≡ nat_eq number n
      agree n inside = same_from_decides (bytes_eq name (named n)) (nat_eq number n) (bytes_eq-Decides name (named n)) (forth, back)
        where
          forth : nat_eq number n ≡ true → name ≡ named n
          forth same =
              let stands = place_of-Some known (class_of_task name) number at in
              sym (ap (λ class. class.name) stands.1) ∙ ap named (eqb-true number n same)

          back : name ≡ named n → nat_eq number n ≡ true
          back is =
              let found : place_of known (class_of_task name) ≡ Some n =
              place_of-at known (class_of_task name) n are.distinct (inside, as_task n ∙ ap class_of_task (sym is)) in
              let same : Some number ≡ Some n = sym at ∙ found in
              eq-eqb number n cc

      pub place-known : place_of_task (tasks_at known here) name ≡ position (nat_eq number) here
      place-known =
          position-map named (bytes_eq name) here
          ∙ position-alike (λ n. bytes_eq name (named n)) (nat_eq number) here (λ k d inside. agree (get_or here k d) (are.within k d inside))

-- what was known has the place that it had, and there is one name more at most
record Keeps (known more : List PlainClass) : Type 0 where
  pub longer : length known ≤ length more
  pub one : length more ≤ 1 + length known
  pub same : (n : ℕ) → n < length known → slice_index_or more n no_class ≡ slice_index_or known n no_class

-- Once a task was learned, `known` is `more`.
module _ (most : ℕ) (known : List PlainClass) (here : List ℕ) (are : AreTasksAmong most known here) (name : List ℕ)
    (more : List PlainClass) (learned : more ≡ with_name known (class_of_task name)) where
  keeps : Keeps known more
  keeps = by (place_of known (class_of_task name)) refl
    where
      by : (r : Option ℕ) → place_of known (class_of_task name) ≡ r → Keeps known more
      by (Some id) h =
          let is : more ≡ known = learned ∙ with_name-known known (class_of_task name) id h in
          record {
            longer = omega (arith, ap length is);
            one = omega (arith, ap length is);
            same = λ n _. ap (λ names. slice_index_or names n no_class) is;
          }
      by None h =
          let is : more ≡ known ++ class_of_task name ∷ [] =
          learned ∙ with_one-new same_class no_class same_class-Decides known (class_of_task name) h in
          let count = length-append known (class_of_task name ∷ []) in
          record {
            longer = omega (arith, ap length is, count);
            one = omega (arith, ap length is, count);
            same = λ n inside. ap (λ names. slice_index_or names n no_class) is
                ∙ get_or_append_left known (class_of_task name ∷ []) no_class n inside;
          }

  -- so the trace's tasks are named as before
  pub tasks-kept : tasks_at more here ≡ tasks_at known here
  tasks-kept = by here are.within
    where
      by : (ns : List ℕ) → All (λ n. n < length known) ns → tasks_at more ns ≡ tasks_at known ns
      by [] _ = refl
      by (n ∷ ns) within =
          let first = ap (λ class. class.name) (keeps.same n (All-head (λ n. n < length known) n ns within)) in
          let rest = by ns (All-tail (λ n. n < length known) n ns within) in
          λ i. first i ∷ rest i

  as_tasks : more ≡ map class_of_task (with_task (tasks_of known) name)
  as_tasks =
      learned ∙ ap (λ names. with_name names (class_of_task name)) are.named
      ∙ with_name-classes (tasks_of known) name

  -- and they are among those that are known, of which there may be one more
  pub among : AreTasksAmong (1 + most) more here
  among = record {
    named = as_tasks ∙ ap (map class_of_task) (sym (tasks_of-classes (with_task (tasks_of known) name)) ∙ ap tasks_of (sym as_tasks));
    distinct = subst AreDistinct (sym learned)
        (apart-with_one same_class no_class same_class-Decides known (class_of_task name) are.distinct);
    within = λ k d inside. let was = are.within k d inside in let longer = keeps.longer in omega arith;
    few = let one = keeps.one in omega (arith, are.few);
  }

  module _ (number : ℕ) (at : IsNameAt more number (class_of_task name)) where
    place : place_of more (class_of_task name) ≡ Some number
    place = place_of-at more (class_of_task name) number among.distinct at

    -- the task has the place of its number
    pub place-learned : place_of_task (tasks_at known here) name ≡ position (nat_eq number) here
    place-learned =
        ap (λ tasks. place_of_task tasks name) (sym tasks-kept)
        ∙ place-known (1 + most) more here among name number place

    -- of a task of the trace nothing was learned
    pub nothing-learned : (k : ℕ) → position (nat_eq number) here ≡ Some k → more ≡ known
    nothing-learned k stands = by (place_of known (class_of_task name)) refl
      where
        by : (r : Option ℕ) → place_of known (class_of_task name) ≡ r → more ≡ known
        by (Some id) h = learned ∙ with_name-known known (class_of_task name) id h
        by None h =
            let none : place_of_task (tasks_at known here) name ≡ None = place-unknown most known here are name h in
            let some : place_of_task (tasks_at known here) name ≡ Some k = place-learned ∙ stands in
            let both : None ≡ Some k = sym none ∙ some in
            cc

    -- a task that is new to the trace is put last
    pub added : AreTasksAmong most more (here ++ number ∷ [])
    added = record {
      named = among.named;
      distinct = among.distinct;
      within = All-push (λ n. n < length more) here number among.within at.0;
      few = omega (arith, among.few, length-append here (number ∷ []));
    }

    pub tasks-added : position (nat_eq number) here ≡ None
        → tasks_at more (here ++ number ∷ []) ≡ with_task (tasks_at known here) name
    tasks-added absent =
        map-append (λ n. (slice_index_or more n no_class).name) here (number ∷ [])
        ∙ (λ i. tasks-kept i ++ (at.1 i).name ∷ [])
        ∙ sym (with_one-new bytes_eq [] bytes_eq-Decides (tasks_at known here) name (place-learned ∙ absent))
