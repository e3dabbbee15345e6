-- The least line of a dependency among edges between numbered classes.
use Rattle.std.proofs.Common.{◌≡◌, ◌<◌, ◌↔◌, ◌∷◌, [], ◌∙◌, ℕ, zero, suc, Bool, true, false, cond, List, Option, Some, None, All, AllPairs, filter, get_or, length, map, min, refl, ap, sym, subst, arith}
use Rattle.std.specs.List.{reduce}
use Rattle.std.proofs.lemmas.Bool.{and_from, and_parts, false_from_ne_true}
use Rattle.std.proofs.lemmas.List.{get_or_default}
use Rattle.std.proofs.lemmas.List.Elements.{All-head, All-tail}
use Rattle.ld_class.specs.Names.{IsNameAt, PlainClass, no_class, same_class}
use Rattle.ld_class.proofs.NameLemmas.{same_class-Decides}
use Rattle.ld_rules.specs.Dependency.{Dependency, Seen, least_line, same_dependency}
use Rattle.ld_rules.specs.Union.{dependencies_of}
use Rattle.ld_rules.proofs.LeastLemmas.{first_pairs, later_pairs}
use Rattle.ld_tables.specs.declared.edges.EdgeFact.{EdgeFact}
use Rattle.ld_facts.specs.Facts.{IsKnown, PlainFacts}
use Rattle.ld_facts.specs.Named.{IsBetween, named_dependency}

-- none is kept where none passes
none_kept : {X : Type 0} (p : X → Bool) (xs : List X) → All (λ x. p x ≡ false) xs → filter p xs ≡ []
none_kept p [] none = refl
none_kept p (x ∷ xs) none =
    ap (λ b. cond b (x ∷ filter p xs) (filter p xs)) (All-head (λ y. p y ≡ false) x xs none)
    ∙ none_kept p xs (All-tail (λ y. p y ≡ false) x xs none)

-- one alone is kept where no two pass
one_kept : {X : Type 0} (p : X → Bool) (xs : List X) (i : ℕ) (d : X) → i < length xs → p (get_or xs i d) ≡ true
    → AllPairs (λ x y. p x ≡ true → p y ≡ true → ⊥) xs → filter p xs ≡ get_or xs i d ∷ []
one_kept p [] i d within passes apart = absurd (omega (arith, within))
one_kept {X} p (x ∷ xs) zero d within passes apart =
    ap (λ b. cond b (x ∷ filter p xs) (filter p xs)) passes
    ∙ ap (λ (ys : List X). x ∷ ys) (none_kept p xs (λ k e inside.
    false_from_ne_true (p (get_or xs k e)) (first_pairs (λ y z. p y ≡ true → p z ≡ true → ⊥) x xs apart k e inside passes)))
one_kept {X} p (x ∷ xs) (suc i) d within passes apart =
    by (p x) refl (one_kept p xs i d (omega (arith, within)) passes (later_pairs (λ y z. p y ≡ true → p z ≡ true → ⊥) x xs apart))
  where
    by : (b : Bool) → p x ≡ b → filter p xs ≡ get_or xs i d ∷ [] → cond b (x ∷ filter p xs) (filter p xs) ≡ get_or xs i d ∷ []
    by true is rest = absurd (first_pairs (λ y z. p y ≡ true → p z ≡ true → ⊥) x xs apart i d (omega (arith, within)) is passes)
    by false is rest = rest

-- what stands for the edge at a place past the end
abbrev pub no_edge : EdgeFact
no_edge = record { from = 0; to = 0; line = 0 }

-- a number is that of a class among names, if one is
abbrev IsFound : List PlainClass → Option ℕ → PlainClass → Type 0
IsFound names found class = (id : ℕ) → (found ≡ Some id) ↔ IsNameAt names id class

same_number : (m n : ℕ) → Some m ≡ Some n → m ≡ n
same_number m n is = cc

nothing_there : (n : ℕ) → None ≡ Some n → ⊥
nothing_there n is = cc

-- the facts of a trace, by their names and edges
module _ (facts : PlainFacts) (is : IsKnown facts) (names : List PlainClass) (same_names : names ≡ facts.classes)
    (edges : List EdgeFact) (same_edges : edges ≡ facts.edges) (what : Dependency) where
  within : All (IsBetween names) edges
  within = subst (λ (p : List PlainClass × List EdgeFact). All (IsBetween p.0) p.1) (λ i. (sym same_names i, sym same_edges i)) is.within

  abbrev is_it : EdgeFact → Bool
  is_it edge = same_dependency what (named_dependency names edge).what

  has_from : (edge : EdgeFact) → IsBetween names edge → is_it edge ≡ true → IsNameAt names edge.from what.from
  has_from edge between passes =
      let parts = and_parts (same_class what.from (get_or names edge.from no_class)) (same_class what.to (get_or names edge.to no_class)) passes in
      (between.0, sym ((same_class-Decides what.from (get_or names edge.from no_class)).0 parts.0))

  has_to : (edge : EdgeFact) → IsBetween names edge → is_it edge ≡ true → IsNameAt names edge.to what.to
  has_to edge between passes =
      let parts = and_parts (same_class what.from (get_or names edge.from no_class)) (same_class what.to (get_or names edge.to no_class)) passes in
      (between.1, sym ((same_class-Decides what.to (get_or names edge.to no_class)).0 parts.1))

  it_is : (edge : EdgeFact) → IsNameAt names edge.from what.from → IsNameAt names edge.to what.to → is_it edge ≡ true
  it_is edge from_is to_is =
      and_from (same_class what.from (get_or names edge.from no_class)) (same_class what.to (get_or names edge.to no_class))
      ((same_class-Decides what.from (get_or names edge.from no_class)).1 (sym from_is.1))
      ((same_class-Decides what.to (get_or names edge.to no_class)).1 (sym to_is.1))

  lines_kept : (some : List EdgeFact)
      → map (λ (s : Seen Dependency). s.line) (filter (λ s. same_dependency what s.what) (map (named_dependency names) some))
      ≡ map (λ (e : EdgeFact). e.line) (filter is_it some)
  lines_kept [] = refl
  lines_kept (e ∷ some) = by (is_it e) (lines_kept some)
    where
      by : (b : Bool) → map (λ (s : Seen Dependency). s.line) (filter (λ s. same_dependency what s.what) (map (named_dependency names) some)) ≡ map (λ (e : EdgeFact). e.line) (filter is_it some)
          → map (λ (s : Seen Dependency). s.line) (cond b (named_dependency names e ∷ (filter (λ s. same_dependency what s.what) (map (named_dependency names) some))) (filter (λ s. same_dependency what s.what) (map (named_dependency names) some)))
          ≡ map (λ (e : EdgeFact). e.line) (cond b (e ∷ filter is_it some) (filter is_it some))
      by true rest = ap (λ (ls : List ℕ). e.line ∷ ls) rest
      by false rest = rest

  -- the least line, by the edges that are kept
  least : least_line same_dependency (dependencies_of facts.source) what ≡ reduce min (map (λ (e : EdgeFact). e.line) (filter is_it edges))
  least =
      sym ((λ i. least_line same_dependency (map (named_dependency (same_names i)) (same_edges i)) what) ∙ is.edges what)
      ∙ ap (reduce min) (lines_kept edges)

  none_passes : ((k : ℕ) → k < length edges → is_it (get_or edges k no_edge) ≡ true → ⊥)
      → least_line same_dependency (dependencies_of facts.source) what ≡ None
  none_passes none = least ∙ ap (λ (es : List EdgeFact). reduce min (map (λ (e : EdgeFact). e.line) es)) (none_kept is_it edges all)
    where
      all : All (λ e. is_it e ≡ false) edges
      all k d inside =
          subst (λ e. is_it e ≡ false) (get_or_default edges k no_edge d inside) (false_from_ne_true (is_it (get_or edges k no_edge)) (none k inside))

  -- a class isn't there
  pub line-no_from : (found : Option ℕ) → found ≡ None → IsFound names found what.from → least_line same_dependency (dependencies_of facts.source) what ≡ None
  line-no_from found was exact = none_passes (λ k inside passes.
      let there = has_from (get_or edges k no_edge) (within k no_edge inside) passes in
      nothing_there (get_or edges k no_edge).from (sym was ∙ (exact (get_or edges k no_edge).from).1 there))

  pub line-no_to : (found : Option ℕ) → found ≡ None → IsFound names found what.to → least_line same_dependency (dependencies_of facts.source) what ≡ None
  line-no_to found was exact = none_passes (λ k inside passes.
      let there = has_to (get_or edges k no_edge) (within k no_edge inside) passes in
      nothing_there (get_or edges k no_edge).to (sym was ∙ (exact (get_or edges k no_edge).to).1 there))

  -- both are there
  module _ (found : Option ℕ) (from : ℕ) (was : found ≡ Some from) (exact : IsFound names found what.from)
      (found_to : Option ℕ) (to : ℕ) (was_to : found_to ≡ Some to) (exact_to : IsFound names found_to what.to) where
    numbered_from : (edge : EdgeFact) → IsBetween names edge → is_it edge ≡ true → from ≡ edge.from
    numbered_from edge between passes = same_number from edge.from (sym was ∙ (exact edge.from).1 (has_from edge between passes))

    numbered_to : (edge : EdgeFact) → IsBetween names edge → is_it edge ≡ true → to ≡ edge.to
    numbered_to edge between passes = same_number to edge.to (sym was_to ∙ (exact_to edge.to).1 (has_to edge between passes))

    -- no edge has both numbers
    pub line-none : ((k : ℕ) → k < length edges → from ≡ (get_or edges k no_edge).from → to ≡ (get_or edges k no_edge).to → ⊥)
        → least_line same_dependency (dependencies_of facts.source) what ≡ None
    line-none none = none_passes (λ k inside passes.
        none k inside (numbered_from (get_or edges k no_edge) (within k no_edge inside) passes) (numbered_to (get_or edges k no_edge) (within k no_edge inside) passes))

    -- one has them
    pub line-one : (i : ℕ) → i < length edges → from ≡ (get_or edges i no_edge).from → to ≡ (get_or edges i no_edge).to
        → least_line same_dependency (dependencies_of facts.source) what ≡ Some (get_or edges i no_edge).line
    line-one i inside is_from is_to =
        least ∙ ap (λ (es : List EdgeFact). reduce min (map (λ (e : EdgeFact). e.line) es)) (one_kept is_it edges i no_edge inside passes apart)
      where
        passes : is_it (get_or edges i no_edge) ≡ true
        passes = it_is (get_or edges i no_edge)
            ((exact (get_or edges i no_edge).from).0 (was ∙ ap Some is_from)) ((exact_to (get_or edges i no_edge).to).0 (was_to ∙ ap Some is_to))

        apart : AllPairs (λ d e. is_it d ≡ true → is_it e ≡ true → ⊥) edges
        apart j k d before later first second =
            let at_j : j < length edges = omega (arith, before, later) in
            subst (AllPairs (λ d e. (d.from ≡ e.from) × (d.to ≡ e.to) → ⊥)) (sym same_edges) is.once j k d before later (
              sym (numbered_from (get_or edges j d) (within j d at_j) first) ∙ numbered_from (get_or edges k d) (within k d later) second,
              sym (numbered_to (get_or edges j d) (within j d at_j) first) ∙ numbered_to (get_or edges k d) (within k d later) second,
            )
