-- What traces show together doesn't depend on their order.
use Rattle.std.proofs.Common.{◌≡◌, [], ◌∷◌, ◌||◌, List, Bool, cond, Option, Some, None, IsSome, length, fold, map, filter_map, flat_map, refl, sym, ap, subst, ◌∙◌}
use Rattle.std.proofs.Math.Bool.{or-false, or_assoc}
use Rattle.std.proofs.lemmas.List.Folds.{list_any-append}
use Rattle.std.proofs.lemmas.List.Sorted.{IsPermutation-sym, length_permutation, list_any-IsPermutation, sum_by-IsPermutation}
use Rattle.std.proofs.lemmas.Map.Made.{length-from_same_keys}
use Rattle.std.specs.Bool.{Decides}
use Rattle.std.specs.List.{cons_option, list_any}
use Rattle.std.specs.List.Sorted.{IsPermutation}
use Rattle.ld_class.specs.Names.{PlainClass, same_class}
use Rattle.ld_class.proofs.NameLemmas.{same_class-Decides}
use Rattle.ld_class.specs.Usage.{marks_of}
use Rattle.ld_trace.specs.Sources.{PlainSource}
use Rattle.ld_graph.specs.Walks.{HasWalk, IsShownWalk}
use Rattle.ld_rules.specs.declared.outcome.Witness.{Witness}
use Rattle.ld_facts.specs.Dependency.{Dependency, Seen, least_line, same_dependency}
use Rattle.ld_facts.specs.Outcome.{each_once, outcome}
use Rattle.ld_facts.specs.Union.{classes_of, dependencies_of, dependency_witness, earlier, first_of, first_witness, use_witness, uses_of}
use Rattle.ld_facts.specs.Usage.{Bit, Use, same_use}
use Rattle.ld_facts.specs.Usage.Bit.{In, On}
use Rattle.ld_rules.proofs.PlaceLemmas.{alike_from_decides, any_each_once}
use Rattle.ld_rules.proofs.StepLemmas.{Decides-same_dependency}
use Rattle.ld_union.specs.Findings.{AreFindings, AreRows, InTurn, IsBefore, IsConflictRow, IsCycleRow, IsForbiddenRow, IsHarder, IsPairBefore}
use Rattle.ld_union.specs.Findings.{PlainConflictRow, PlainCycleRow, PlainFindings, PlainForbiddenRow, conflict_key, cycle_key, forbidden_key}
use Rattle.ld_union.specs.Findings.{shown_marks}
use Rattle.ld_book.specs.Totals.{events_read, is_refused, totals}
use Rattle.ld_union.specs.Inner.Union.{seen_in}
use Rattle.ld_union.specs.Usage.{witnessed_bits}
use Rattle.ld_union.specs.Violations.{Depends, HasBit, HasViolation, IsConflict, IsCycle, IsForbidden, IsViolation, Violation}
use Rattle.ld_union.specs.Violations.Violation.{Conflict, Cycle, Forbidden}
use Rattle.ld_union.proofs.EachOnceLemmas.{IsDistinct-each_once, IsEquivalence-from_decides}
use Rattle.ld_batch.proofs.EarlierLemmas.{by-earlier, is_by, same_from_bounds}

-- the least of some witnesses isn't, where one of them isn't
by-first : (bound : Witness) (witnesses : List Witness) → is_by bound (first_of witnesses) ≡ list_any (λ w. is_by bound (Some w)) witnesses
by-first bound [] = refl
by-first bound (first ∷ witnesses) = from first witnesses
  where
    from : (first : Witness) (others : List Witness) → is_by bound (Some (fold earlier first others)) ≡ (is_by bound (Some first) || list_any (λ w. is_by bound (Some w)) others)
    from first [] = sym (or-false (is_by bound (Some first)))
    from first (w ∷ others) =
        from (earlier first w) others
        ∙ ap (λ b. b || list_any (λ x. is_by bound (Some x)) others) (by-earlier bound first w)
        ∙ or_assoc (is_by bound (Some first)) (is_by bound (Some w)) (list_any (λ x. is_by bound (Some x)) others)

-- the first witness over some sources isn't, where that in one of them isn't
by-sources : (bound : Witness) (at : PlainSource → Option Witness) (sources : List PlainSource) → is_by bound (first_of (filter_map at sources)) ≡ list_any (λ s. is_by bound (at s)) sources
by-sources bound at sources = by-first bound (filter_map at sources) ∙ among sources
  where
    more : (witness : Option Witness) (others : List Witness) → list_any (λ w. is_by bound (Some w)) (cons_option witness others) ≡ (is_by bound witness || list_any (λ w. is_by bound (Some w)) others)
    more None others = refl
    more (Some w) others = refl

    among : (all : List PlainSource) → list_any (λ w. is_by bound (Some w)) (filter_map at all) ≡ list_any (λ s. is_by bound (at s)) all
    among [] = refl
    among (source ∷ all) = more (at source) (filter_map at all) ∙ ap (λ b. is_by bound (at source) || b) (among all)

-- where something was first seen doesn't depend on the order of the sources
pub first_witness-permuted : {A : Type 0} (same : A → A → Bool) (shown : PlainSource → List (Seen A)) (sources listed : List PlainSource) → IsPermutation sources listed → (what : A)
    → first_witness same shown listed what ≡ first_witness same shown sources what
first_witness-permuted same shown sources listed moved what =
    let at : PlainSource → Option Witness = λ s. seen_in s.number (least_line same (shown s) what) in
    same_from_bounds (first_of (filter_map at listed)) (first_of (filter_map at sources)) (λ bound.
    by-sources bound at listed ∙ sym (list_any-IsPermutation (λ s. is_by bound (at s)) sources listed moved) ∙ sym (by-sources bound at sources))

-- nor does the first witness of a dependency
pub dependency_witness-permuted : (sources listed : List PlainSource) → IsPermutation sources listed → (what : Dependency) → dependency_witness listed what ≡ dependency_witness sources what
dependency_witness-permuted sources listed moved what = first_witness-permuted same_dependency dependencies_of sources listed moved what

-- nor does that of a bit of a class
pub use_witness-permuted : (sources listed : List PlainSource) → IsPermutation sources listed → (what : Use) → use_witness listed what ≡ use_witness sources what
use_witness-permuted sources listed moved what = first_witness-permuted same_use uses_of sources listed moved what

-- of the elements of some lists together one passes where one of some list does
list_any-flat_map : {X Y : Type 0} (p : Y → Bool) (f : X → List Y) (xs : List X) → list_any p (flat_map f xs) ≡ list_any (λ x. list_any p (f x)) xs
list_any-flat_map p f [] = refl
list_any-flat_map p f (x ∷ xs) = list_any-append p (f x) (flat_map f xs) ∙ ap (λ b. list_any p (f x) || b) (list_any-flat_map p f xs)

-- how many different things are shown doesn't depend on the order of the sources
count-permuted : {X : Type 0} (same : X → X → Bool) → ((a b : X) → Decides (same a b) (a ≡ b)) → (shown : PlainSource → List X) (sources listed : List PlainSource) → IsPermutation sources listed
    → length (each_once same (flat_map shown listed)) ≡ length (each_once same (flat_map shown sources))
count-permuted {X} same decides shown sources listed moved =
    length-from_same_keys (IsEquivalence-from_decides same decides) (each_once same (flat_map shown listed)) (each_once same (flat_map shown sources))
    (IsDistinct-each_once same decides (flat_map shown listed)) (IsDistinct-each_once same decides (flat_map shown sources))
    (λ what. any what listed ∙ sym (list_any-IsPermutation (λ s. list_any (same what) (shown s)) sources listed moved) ∙ sym (any what sources))
  where
    any : (what : X) (all : List PlainSource) → list_any (same what) (each_once same (flat_map shown all)) ≡ list_any (λ s. list_any (same what) (shown s)) all
    any what all = any_each_once same (alike_from_decides same decides) what (flat_map shown all) ∙ list_any-flat_map (same what) shown all

-- nor do the totals
pub totals-permuted : (sources listed : List PlainSource) → IsPermutation sources listed → totals listed ≡ totals sources
totals-permuted sources listed moved =
    let traces = length_permutation sources listed moved in
    let refused = sum_by-IsPermutation (λ s. cond (is_refused (outcome s)) 1 0) sources listed moved in
    let events = sum_by-IsPermutation (λ s. events_read (outcome s)) sources listed moved in
    let classes = count-permuted same_class same_class-Decides classes_of sources listed moved in
    let dependencies = count-permuted same_dependency Decides-same_dependency (λ s. map (λ d. d.what) (dependencies_of s)) sources listed moved in
    λ i. record { traces = traces i; refused = refused i; events = events i; classes = classes i; dependencies = dependencies i }

-- rows are still exactly those that are owed, where each says as much as before and no more is owed
rows-same : {Row Key : Type 0} (key : Row → Key) (IsRow IsRow' : Row → Type 0) (IsOwed IsOwed' : Key → Type 0) (before : Key → Key → Type 0) (rows : List Row)
    → ((row : Row) → IsRow row → IsRow' row) → ((k : Key) → IsOwed' k → IsOwed k) → AreRows key IsRow IsOwed before rows → AreRows key IsRow' IsOwed' before rows
rows-same key IsRow IsRow' IsOwed IsOwed' before rows row_same owed_same are = record {
  each = λ k d within. row_same _ (are.each k d within);
  all = λ k owed. are.all k (owed_same k owed);
  ordered = are.ordered;
}

module _ (sources listed : List PlainSource) (moved : IsPermutation sources listed) where
  -- what holds of the dependencies of the one list holds of those of the other
  of_dependencies : (P : (PlainClass → PlainClass → Type 0) → Type 0) → P (Depends listed) → P (Depends sources)
  of_dependencies P = subst (λ (first : Dependency → Option Witness). P (λ a b. IsSome (first (record { from = a; to = b })))) (λ i what. dependency_witness-permuted sources listed moved what i)

  -- a class keeps its bits
  has_bit-same : (class : PlainClass) (bit : Bit) → HasBit listed class bit → HasBit sources class bit
  has_bit-same class bit = subst IsSome (use_witness-permuted sources listed moved (record { class = class; bit = bit }))

  -- each violation of the one list is one of the other
  violation-same : (v : Violation) → IsViolation listed v → IsViolation sources v
  violation-same (Cycle from to) is = of_dependencies (λ depends. depends from to × HasWalk depends to from) is
  violation-same (Conflict state class) is = (has_bit-same class (In state) is.0, has_bit-same class (On state) is.1)
  violation-same (Forbidden state from to) is = (has_bit-same from (In state) is.0, has_bit-same to (On state) is.1, of_dependencies (λ depends. HasWalk depends from to) is.2)

  -- a class keeps its usage characters
  marks-same : (class : PlainClass) → shown_marks listed class ≡ shown_marks sources class
  marks-same class = ap (λ (first : Bit → Option Witness). marks_of (witnessed_bits first)) (λ i bit. use_witness-permuted sources listed moved (record { class = class; bit = bit }) i)

  -- a bit of a class was first seen at the same place
  use-same : (class : PlainClass) (bit : Bit) (at : Witness) → use_witness listed (record { class = class; bit = bit }) ≡ Some at → use_witness sources (record { class = class; bit = bit }) ≡ Some at
  use-same class bit at is = sym (use_witness-permuted sources listed moved (record { class = class; bit = bit })) ∙ is

  -- each row says what it said: that of a cycle
  cycle_row-same : (row : PlainCycleRow) → IsCycleRow listed row → IsCycleRow sources row
  cycle_row-same row is = record {
    cycle = violation-same (Cycle row.from row.to) is.cycle;
    at = sym (dependency_witness-permuted sources listed moved (record { from = row.from; to = row.to })) ∙ is.at;
    recursion = is.recursion;
    shown = λ differ. of_dependencies (λ depends. IsShownWalk depends IsBefore row.to row.from row.via) (is.shown differ);
  }

  -- that of a conflict
  conflict_row-same : (row : PlainConflictRow) → IsConflictRow listed row → IsConflictRow sources row
  conflict_row-same row is = record {
    conflict = violation-same (Conflict row.state row.class) is.conflict;
    marks = is.marks ∙ marks-same row.class;
    safe_at = use-same row.class (In row.state) row.safe_at is.safe_at;
    unsafe_at = use-same row.class (On row.state) row.unsafe_at is.unsafe_at;
  }

  -- that of a forbidden walk
  forbidden_row-same : (row : PlainForbiddenRow) → IsForbiddenRow listed row → IsForbiddenRow sources row
  forbidden_row-same row is = record {
    forbidden = violation-same (Forbidden row.state row.from row.to) is.forbidden;
    from_marks = is.from_marks ∙ marks-same row.from;
    safe_at = use-same row.from (In row.state) row.safe_at is.safe_at;
    to_marks = is.to_marks ∙ marks-same row.to;
    unsafe_at = use-same row.to (On row.state) row.unsafe_at is.unsafe_at;
    shown = of_dependencies (λ depends. IsShownWalk depends IsBefore row.from row.to row.via) is.shown;
  }

  -- a violation in one order is one in another
  pub has_violation-permuted : HasViolation listed → HasViolation sources
  has_violation-permuted has = (has.0, violation-same has.0 has.1)

-- what is found in one order is what is found in another
pub findings-permuted : (sources listed : List PlainSource) → IsPermutation sources listed → (findings : PlainFindings) → AreFindings listed findings → AreFindings sources findings
findings-permuted sources listed moved findings are = record {
  cycles = rows-same cycle_key (IsCycleRow listed) (IsCycleRow sources) (λ p. IsCycle listed p.0 p.1) (λ p. IsCycle sources p.0 p.1) IsPairBefore findings.cycles
      (cycle_row-same sources listed moved) (λ p. owed (Cycle p.0 p.1)) are.cycles;
  conflicts = rows-same conflict_key (IsConflictRow listed) (IsConflictRow sources) (λ p. IsConflict listed p.0 p.1) (λ p. IsConflict sources p.0 p.1) (InTurn IsHarder IsBefore) findings.conflicts
      (conflict_row-same sources listed moved) (λ p. owed (Conflict p.0 p.1)) are.conflicts;
  forbidden = rows-same forbidden_key (IsForbiddenRow listed) (IsForbiddenRow sources) (λ p. IsForbidden listed p.0 p.1.0 p.1.1)
      (λ p. IsForbidden sources p.0 p.1.0 p.1.1) (InTurn IsHarder IsPairBefore) findings.forbidden
      (forbidden_row-same sources listed moved) (λ p. owed (Forbidden p.0 p.1.0 p.1.1)) are.forbidden;
}
  where
    owed : (v : Violation) → IsViolation sources v → IsViolation listed v
    owed = violation-same listed sources (IsPermutation-sym sources listed moved)
