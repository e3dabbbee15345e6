-- Dependencies between numbered classes, read by the names of the classes: distinct names make equal names
-- equal numbers, so a dependency is new by its numbers where it is new by its names.
use Rattle.std.proofs.Common.{◌≡◌, ◌<◌, ◌++◌, ◌∷◌, [], ◌||◌, ◌&&◌, ◌==◌, List, ℕ, Bool, true, false, All}
use Rattle.std.proofs.Common.{length, map, fold, is_some, get_or, slice_index_or, refl, ap, sym, ◌∙◌, arith, if◌then◌else◌, length-append, ltb}
use Rattle.std.proofs.lemmas.Bool.{and_from, and_parts, lt-ltb, ltb-true}
use Rattle.std.proofs.lemmas.Bool.Decides.{Decides-eqb}
use Rattle.std.proofs.lemmas.List.{get_or_append_left, map-append}
use Rattle.std.proofs.lemmas.List.Elements.{All-nil, All-cons, All-head, All-tail, All-append, All-map, All-weaker}
use Rattle.std.proofs.lemmas.Simd.{map-map}
use Rattle.std.specs.List.{list_any}
use Rattle.ld_class.specs.Names.{AreDistinct, IsNameAt, PlainClass, no_class, place_of, same_class, with_name}
use Rattle.ld_class.proofs.NameLemmas.{same_class-Decides}
use Rattle.ld_tables.specs.declared.edges.EdgeFact.{EdgeFact}
use Rattle.ld_tables.specs.Inner.Edges.{AreApart, edge_to, same_pair, with_edge_fact}
use Rattle.ld_tables.specs.Inner.Locks.{Hold}
use Rattle.ld_rules.specs.Dependency.{same_dependency}
use Rattle.ld_rules.specs.Inner.Scanned.{AreSame, same_dependency_seen, with_new}
use Rattle.ld_rules.proofs.SameLemmas.{same-all}
use Rattle.ld_batch.proofs.LineLemmas.{AreOnce, pairs-map}
use Rattle.ld_facts.specs.Inner.Scan.{HeldLock, named_hold}
use Rattle.ld_facts.specs.Named.{IsBetween, named_dependency}

-- two tests that pass together are one
same_test : (a b : Bool) → (a ≡ true → b ≡ true) → (b ≡ true → a ≡ true) → a ≡ b
same_test true b there back = sym (there refl)
same_test false true there back = back refl
same_test false false there back = refl

-- dependencies of which the names are told apart, and one more
module _ (names : List PlainClass) (distinct : AreDistinct names) where
  numbers_by_name : (i j : ℕ) → i < length names → j < length names → same_class (slice_index_or names i no_class) (slice_index_or names j no_class) ≡ (i == j)
  numbers_by_name i j low_i low_j =
      let by_names = same_class-Decides (slice_index_or names i no_class) (slice_index_or names j no_class) in
      let by_numbers = Decides-eqb i j in
      same_test (same_class (slice_index_or names i no_class) (slice_index_or names j no_class)) (i == j)
      (λ h. by_numbers.1 (distinct i j (slice_index_or names j no_class) (low_i, by_names.0 h) (low_j, refl)))
      (λ h. by_names.1 (ap (λ k. slice_index_or names k no_class) (by_numbers.0 h)))

  same_named : (a b : EdgeFact) → IsBetween names a → IsBetween names b → same_dependency_seen (named_dependency names a) (named_dependency names b) ≡ same_pair a b
  same_named a b in_a in_b = λ i. numbers_by_name a.from b.from in_a.0 in_b.0 i && numbers_by_name a.to b.to in_a.1 in_b.1 i

  any_named : (edges : List EdgeFact) (edge : EdgeFact) → All (IsBetween names) edges → IsBetween names edge → list_any (same_dependency_seen (named_dependency names edge))
      (map (named_dependency names) edges) ≡ list_any (same_pair edge) edges
  any_named [] edge within here = refl
  any_named (x ∷ xs) edge within here =
      let first = same_named edge x here (All-head (IsBetween names) x xs within) in
      let rest = any_named xs edge (All-tail (IsBetween names) x xs within) here in
      (λ i. first i || rest i)

  -- those that are told apart by number are so by name
  pub once-named : (edges : List EdgeFact) → All (IsBetween names) edges → AreApart edges → AreOnce same_dependency (map (named_dependency names) edges)
  once-named edges within apart = pairs-map (λ s t. same_dependency t.what s.what ≡ false) (named_dependency names) edges
      (λ i j d before inside. same_named (get_or edges j d) (get_or edges i d) (within j d inside) (within i d (omega arith)) ∙ apart i j d before inside)

pub with_edge_fact-named : (names : List PlainClass) → AreDistinct names → (edges : List EdgeFact) (edge : EdgeFact) → All (IsBetween names) edges → IsBetween
    names edge → map (named_dependency names) (with_edge_fact edges edge) ≡ with_new same_dependency_seen (map (named_dependency names) edges) (named_dependency names edge)
with_edge_fact-named names distinct edges edge within here =
    map-append (named_dependency names) edges (if list_any (same_pair edge) edges then [] else edge ∷ [])
    ∙ ap (λ zs. map (named_dependency names) edges ++ zs) (by (list_any (same_pair edge) edges))
    ∙ ap (λ (b : Bool). map (named_dependency names) edges ++ (if b then [] else named_dependency names edge ∷ [])) (sym (any_named names distinct edges edge within here))
  where
    by : (b : Bool) → map (named_dependency names) (if b then [] else edge ∷ []) ≡ (if b then [] else named_dependency names edge ∷ [])
    by true = refl
    by false = refl

pub within-with_edge_fact : (names : List PlainClass) (edges : List EdgeFact) (edge : EdgeFact) → All (IsBetween names) edges → IsBetween names edge → All (IsBetween names) (with_edge_fact edges edge)
within-with_edge_fact names edges edge within here = All-append (IsBetween names) edges (if list_any (same_pair edge) edges then [] else edge ∷ []) within (by (list_any (same_pair edge) edges))
  where
    by : (b : Bool) → All (IsBetween names) (if b then [] else edge ∷ [])
    by true = All-nil (IsBetween names)
    by false = All-cons (IsBetween names) edge [] here (All-nil (IsBetween names))

-- the dependencies on one class from others, told at one line
pub tell-named : (names : List PlainClass) → AreDistinct names → (edges : List EdgeFact) (line class : ℕ) (froms : List ℕ) → All (IsBetween names) edges
    → class < length names → All (λ from. from < length names) froms → map (named_dependency names) (fold with_edge_fact edges (map (edge_to class line) froms)) ≡
    fold (with_new same_dependency_seen) (map (named_dependency names) edges)
    (map (λ from. record { what = record { from = slice_index_or names from no_class; to = slice_index_or names class no_class }; line = line }) froms)
tell-named names distinct edges line class [] within inside all = refl
tell-named names distinct edges line class (from ∷ froms) within inside all =
    let here : IsBetween names (edge_to class line from) = (All-head (λ f. f < length names) from froms all, inside) in
    tell-named names distinct (with_edge_fact edges (edge_to class line from)) line class froms
    (within-with_edge_fact names edges (edge_to class line from) within here) inside (All-tail (λ f. f < length names) from froms all)
    ∙ ap (λ zs. fold (with_new same_dependency_seen) zs (map (λ f. named_dependency names (edge_to class line f)) froms))
    (with_edge_fact-named names distinct edges (edge_to class line from) within here)

pub within-tell : (names : List PlainClass) (edges : List EdgeFact) (line class : ℕ) (froms : List ℕ) → All (IsBetween names) edges → class < length
    names → All (λ from. from < length names) froms → All (IsBetween names) (fold with_edge_fact edges (map (edge_to class line) froms))
within-tell names edges line class [] within inside all = within
within-tell names edges line class (from ∷ froms) within inside all =
    within-tell names (with_edge_fact edges (edge_to class line from)) line class froms
    (within-with_edge_fact names edges (edge_to class line from) within (All-head (λ f. f < length names) from froms all, inside)) inside (All-tail (λ f. f < length names) from froms all)

-- lists with the same dependencies have them between the same classes
pub within-same : (names : List PlainClass) (xs ys : List EdgeFact) → AreSame xs ys → All (IsBetween names) xs → All (IsBetween names) ys
within-same names xs ys same within =
    All-weaker (λ e. is_between e ≡ true) (IsBetween names) (λ e is. read e is) ys
    (same-all is_between xs ys same (All-weaker (IsBetween names) (λ e. is_between e ≡ true) (λ e is. tests e is) xs within))
  where
    is_between : EdgeFact → Bool
    is_between e = ltb e.from (length names) && ltb e.to (length names)

    tests : (e : EdgeFact) → IsBetween names e → is_between e ≡ true
    tests e is = and_from (ltb e.from (length names)) (ltb e.to (length names)) (lt-ltb e.from (length names) is.0) (lt-ltb e.to (length names) is.1)

    read : (e : EdgeFact) → is_between e ≡ true → IsBetween names e
    read e is =
        let both = and_parts (ltb e.from (length names)) (ltb e.to (length names)) is in
        (ltb-true e.from (length names) both.0, ltb-true e.to (length names) both.1)

-- names with one more among them: those that were there stand where they stood
pub number-more : (names : List PlainClass) (name : PlainClass) (i : ℕ) → i < length names → i < length (with_name names name)
number-more names name i low = by (is_some (place_of names name))
  where
    by : (b : Bool) → i < length (if b then names else names ++ name ∷ [])
    by true = low
    by false = omega (arith, low, length-append names (name ∷ []))

pub name-more : (names : List PlainClass) (name : PlainClass) (i : ℕ) → i < length names → slice_index_or (with_name names name) i no_class ≡ slice_index_or names i no_class
name-more names name i low = by (is_some (place_of names name))
  where
    by : (b : Bool) → slice_index_or (if b then names else names ++ name ∷ []) i no_class ≡ slice_index_or names i no_class
    by true = refl
    by false = get_or_append_left names (name ∷ []) no_class i low

pub IsNameAt-more : (names : List PlainClass) (name : PlainClass) (i : ℕ) (other : PlainClass) → IsNameAt names i other → IsNameAt (with_name names name) i other
IsNameAt-more names name i other at = (number-more names name i at.0, name-more names name i at.0 ∙ at.1)

pub named-more : (names : List PlainClass) (name : PlainClass) (edges : List EdgeFact) →
    All (IsBetween names) edges → map (named_dependency (with_name names name)) edges ≡ map (named_dependency names) edges
named-more names name [] within = refl
named-more names name (x ∷ xs) within =
    let here = All-head (IsBetween names) x xs within in
    let from_same = name-more names name x.from here.0 in
    let to_same = name-more names name x.to here.1 in
    let rest = named-more names name xs (All-tail (IsBetween names) x xs within) in
    (λ i. record { what = record { from = from_same i; to = to_same i }; line = x.line } ∷ rest i)

pub within-more : (names : List PlainClass) (name : PlainClass) (edges : List EdgeFact) → All (IsBetween names) edges → All (IsBetween (with_name names name)) edges
within-more names name edges within =
    All-weaker (IsBetween names) (IsBetween (with_name names name)) (λ x here. (number-more names name x.from here.0, number-more names name x.to here.1)) edges within

-- the classes of the locks of a stack, by number
pub holds-classes : (names : List PlainClass) (stack : List Hold) → map (λ from. slice_index_or names from no_class) (map (λ hold. hold.class) stack) ≡
    map (λ held. held.class) (map (named_hold names) stack)
holds-classes names stack =
    map-map (λ from. slice_index_or names from no_class) (λ (hold : Hold). hold.class) stack
    ∙ sym (map-map (λ (held : HeldLock). held.class) (named_hold names) stack)

pub holds-within : (names : List PlainClass) (stack : List Hold) → All (λ hold. hold.class < length names) stack → All (λ from. from < length names) (map (λ hold. hold.class) stack)
holds-within names stack within = All-map (λ from. from < length names) (λ hold. hold.class) stack within

-- among other names that stand where they stood, they are those that they were
module _ (names more : List PlainClass) (stays : (number : ℕ) (name : PlainClass) → IsNameAt names number name → IsNameAt more number name) where
  pub holds-stay : (stack : List Hold) → All (λ hold. hold.class < length names) stack → map (named_hold more) stack ≡ map (named_hold names) stack
  holds-stay [] within = refl
  holds-stay (x ∷ xs) within =
      let here = stays x.class (slice_index_or names x.class no_class) (All-head (λ hold. hold.class < length names) x xs within, refl) in
      let rest = holds-stay xs (All-tail (λ hold. hold.class < length names) x xs within) in
      (λ i. record { lock = x.lock; class = here.1 i } ∷ rest i)

  pub holds-stay_within : (stack : List Hold) → All (λ hold. hold.class < length names) stack → All (λ hold. hold.class < length more) stack
  holds-stay_within stack within = All-weaker (λ hold. hold.class < length names) (λ hold. hold.class < length more)
      (λ hold low. (stays hold.class (slice_index_or names hold.class no_class) (low, refl)).0) stack within
