-- Dependencies that are told from some classes to one, in whatever order.
use Rattle.std.proofs.Common.{◌≡◌, ◌≤◌, ◌∷◌, [], ◌++◌, ◌&&◌, ◌||◌, List, ℕ, Bool, true, false, nat_eq, not, ap, ◌∙◌, sym, subst, refl, arith}
use Rattle.std.proofs.Common.{Result, Ok, Err, OnOk, drop, eqb, flat_map, fold, get_or, length, map, take, if◌then◌else◌}
use Rattle.std.proofs.Math.Bool.{or-false, or_assoc}
use Rattle.std.proofs.lemmas.Bool.{eq-eqb, eqb-true, or_left, true≢false}
use Rattle.std.proofs.lemmas.List.{append-nil, take-append-drop}
use Rattle.std.proofs.lemmas.List.Concat.{flat_map-append}
use Rattle.std.proofs.lemmas.List.Folds.{Any-from_list_any, list_any-append, list_any_at}
use Rattle.std.specs.List.{list_any}
use Rattle.ld_rules.proofs.SameLemmas.{apart-fold}
use Rattle.ld_rules.specs.Inner.Scanned.{AreSame}
use Rattle.ld_tables.specs.declared.edges.EdgeFact.{EdgeFact}
use Rattle.ld_tables.specs.declared.masks.NewEdges.{NewEdges}
use Rattle.ld_tables.specs.Inner.Edges.{AreToldTo, edge_to, edges_in, edges_of, same_pair, with_edge_fact}
use Rattle.ld_tables.specs.Inner.Locks.{HeldByTasks, Tells}
use Rattle.ld_tables.proofs.FirstLemmas.{with_each-first}
use Rattle.ld_tables.proofs.TellingLemmas.{same_test}

-- lists with the same numbers pass a test alike
pub any-same : (p : ℕ → Bool) (xs ys : List ℕ) → ((n : ℕ) → list_any (nat_eq n) xs ≡ list_any (nat_eq n) ys) → list_any p xs ≡ list_any p ys
any-same p xs ys same = same_test (list_any p xs) (list_any p ys) (found xs ys same) (found ys xs (λ n. sym (same n)))
  where
    found : (xs ys : List ℕ) → ((n : ℕ) → list_any (nat_eq n) xs ≡ list_any (nat_eq n) ys) → list_any p xs ≡ true → list_any p ys ≡ true
    found xs ys same passes =
        let here = Any-from_list_any p xs passes in
        let n = here.1 in
        let there = Any-from_list_any (nat_eq n) ys (sym (same n) ∙ list_any_at (nat_eq n) xs here.0 n here.2 (eq-eqb n (get_or xs here.0 n) (sym here.3))) in
        let is : n ≡ there.1 = eqb-true n there.1 there.4 in
        list_any_at p ys there.0 there.1 there.2 (ap p (there.3 ∙ sym is) ∙ here.4)

module _ (test : EdgeFact → Bool) (class line : ℕ) where
  abbrev known : List EdgeFact → ℕ → Bool
  known edges from = list_any (same_pair (edge_to class line from)) edges

  abbrev adds : List EdgeFact → ℕ → Bool
  adds edges from = not (known edges from) && test (edge_to class line from)

  -- one that was told just before adds nothing that the test finds first
  beside : (edges : List EdgeFact) (from : ℕ) (froms : List ℕ) → (test (edge_to class line from) || list_any (adds (edges ++ edge_to class line from ∷ [])) froms)
      ≡ (test (edge_to class line from) || list_any (adds edges) froms)
  beside edges from froms = by (test (edge_to class line from)) refl
    where
      one : (other : ℕ) → test (edge_to class line from) ≡ false → (b : Bool) → eqb other from ≡ b → (not (known edges other || ((b && eqb class class) || false)) && test (edge_to class line other)) ≡ adds edges other
      one other fails true is = nothing (known edges other) (eqb class class) (test (edge_to class line other)) (ap (λ n. test (edge_to class line n)) (eqb-true other from is) ∙ fails)
        where
          nothing : (a b t : Bool) → t ≡ false → (not (a || (b || false)) && t) ≡ (not a && t)
          nothing a b true h = absurd (true≢false h)
          nothing true b false h = refl
          nothing false true false h = refl
          nothing false false false h = refl
      one other fails false is = ap (λ b. not b && test (edge_to class line other)) (or-false (known edges other))

      each : test (edge_to class line from) ≡ false → (others : List ℕ) → list_any (adds (edges ++ edge_to class line from ∷ [])) others ≡ list_any (adds edges) others
      each fails [] = refl
      each fails (other ∷ others) = (λ i. (ap (λ b. not b && test (edge_to class line other)) (list_any-append (same_pair (edge_to class line other)) edges (edge_to class line from ∷ [])) ∙ one other fails (eqb other from) refl) i || each fails others i)

      by : (b : Bool) → test (edge_to class line from) ≡ b → (b || list_any (adds (edges ++ edge_to class line from ∷ [])) froms) ≡ (b || list_any (adds edges) froms)
      by true is = refl
      by false is = each is froms

  -- what a test finds once they are told
  any-told : (edges : List EdgeFact) (froms : List ℕ) → list_any test (fold with_edge_fact edges (map (edge_to class line) froms)) ≡ (list_any test edges || list_any (adds edges) froms)
  any-told edges [] = sym (or-false (list_any test edges))
  any-told edges (from ∷ froms) =
      any-told (with_edge_fact edges (edge_to class line from)) froms ∙ by (known edges from) refl
    where
      by : (b : Bool) → known edges from ≡ b
          → (list_any test (edges ++ (if b then [] else edge_to class line from ∷ [])) || list_any (adds (edges ++ (if b then [] else edge_to class line from ∷ []))) froms)
          ≡ (list_any test edges || ((not b && test (edge_to class line from)) || list_any (adds edges) froms))
      by true is = ap (λ es. list_any test es || list_any (adds es) froms) (append-nil edges)
      by false is =
          ap (λ b. b || list_any (adds (edges ++ edge_to class line from ∷ [])) froms) (list_any-append test edges (edge_to class line from ∷ []) ∙ ap (λ b. list_any test edges || b) (or-false (test (edge_to class line from))))
          ∙ or_assoc (list_any test edges) (test (edge_to class line from)) (list_any (adds (edges ++ edge_to class line from ∷ [])) froms)
          ∙ ap (λ b. list_any test edges || b) (beside edges from froms)

-- those of the same classes are the same
pub told-same : (class line : ℕ) (edges : List EdgeFact) (froms those : List ℕ) → ((n : ℕ) → list_any (nat_eq n) froms ≡ list_any (nat_eq n) those)
    → AreSame (fold with_edge_fact edges (map (edge_to class line) froms)) (fold with_edge_fact edges (map (edge_to class line) those))
told-same class line edges froms those same test =
    any-told test class line edges froms
    ∙ ap (λ b. list_any test edges || b) (any-same (λ from. not (list_any (same_pair (edge_to class line from)) edges) && test (edge_to class line from)) froms those same)
    ∙ sym (any-told test class line edges those)

-- what is told of the classes in another order
pub told-to : (froms those : List ℕ) (class line : ℕ) (old new : List EdgeFact) → ((n : ℕ) → list_any (nat_eq n) those ≡ list_any (nat_eq n) froms)
    → new ≡ fold with_edge_fact old (map (edge_to class line) those) → AreToldTo froms class line old new
told-to froms those class line old new same is =
    subst (AreToldTo froms class line old) (sym is) (record {
      first = with_each-first same_pair old (map (edge_to class line) those);
      once = apart-fold same_pair old (map (edge_to class line) those);
      told = told-same class line old froms those (λ n. sym (same n));
    })

-- nothing is told anew
pub tells-exact : (froms : List ℕ) (class line : ℕ) (old new : HeldByTasks) → new ≡ record old { edges = fold with_edge_fact old.edges (map (edge_to class line) froms) } → Tells froms class line old new
tells-exact froms class line old new is =
    subst (Tells froms class line old) (sym is) (record {
      others = refl;
      told = told-to froms froms class line old.edges (fold with_edge_fact old.edges (map (edge_to class line) froms)) (λ n. refl) refl;
    })

-- what was told stays
pub keeps-first : (old new : List NewEdges) → take (length old) new ≡ old → (test : EdgeFact → Bool) → list_any test (edges_of old) ≡ true → list_any test (edges_of new) ≡ true
keeps-first old new first test there =
    ap (λ ts. list_any test (edges_of ts)) (sym (take-append-drop (length old) new))
    ∙ ap (list_any test) (flat_map-append edges_in (take (length old) new) (drop (length old) new))
    ∙ list_any-append test (edges_of (take (length old) new)) (edges_of (drop (length old) new))
    ∙ or_left (list_any test (edges_of (take (length old) new))) (list_any test (edges_of (drop (length old) new))) (ap (λ ts. list_any test (edges_of ts)) first ∙ there)
