-- What is kept of dependencies, after one more was seen.
use Rattle.std.proofs.Common.{◌≡◌, ◌≢◌, ◌⊎◌, inl, inr, ◌<◌, ◌++◌, ◌∷◌, [], ◌&&◌, List, ℕ, Bool, true, false, Option, Some, None, is_some, length}
use Rattle.std.proofs.Common.{set, get_or, refl, sym, ap, subst, ◌∙◌, if◌then◌else◌, arith, All, AllPairs, Any}
use Rattle.std.proofs.lemmas.Bool.{true≢false, and_parts, cases_eq, cases_order, false_from_ne_true}
use Rattle.std.proofs.lemmas.List.{get_or-map, get_or-take, get_or-set_same, get_or-set_other, get_or_append_left, get_or_default, length-map, length-set, length_push, map-set, map-append, set-get_or}
use Rattle.std.proofs.lemmas.List.Elements.{All-push}
use Rattle.std.proofs.lemmas.List.Quantifiers.{Any-push, all_pairs_push, any-set}
use Rattle.std.proofs.lemmas.Option.{get_or_from_slice_get, slice_get_within}
use Rattle.ld_class.specs.Names.{AreDistinct, IsNameAt, PlainClass, no_class, place_of, same_class}
use Rattle.ld_class.proofs.NameLemmas.{place_of-None, same_class-Decides}
use Rattle.ld_graph.specs.declared.Edge.{Edge}
use Rattle.ld_graph.specs.Edges.{IsEdge, IsEdgeNumber, edge}
use Rattle.ld_rules.specs.declared.outcome.Witness.{Witness}
use Rattle.ld_rules.specs.Dependency.{Dependency, same_dependency}
use Rattle.ld_rules.specs.Union.{earlier}
use Rattle.ld_union.specs.declared.dependencies.Witnessed.{Witnessed}
use Rattle.ld_batch.specs.Inner.Names.{IsLonger}
use Rattle.ld_batch.proofs.SourceLemmas.{earlier_of-none}
use Rattle.ld_union.specs.Inner.Union.{AreBetween, AreWitnessed, earlier_of, edges_of, named_edge}

-- equal dependencies have equal names
pub same_dependency-true : (a b : Dependency) → same_dependency a b ≡ true → a ≡ b
same_dependency-true a b same =
    let parts = and_parts (same_class a.from b.from) (same_class a.to b.to) same in
    let from = (same_class-Decides a.from b.from).0 parts.0 in
    let to = (same_class-Decides a.to b.to).0 parts.1 in
    λ i. record { from = from i; to = to i }

pub same_dependency-refl : (a : Dependency) → same_dependency a a ≡ true
same_dependency-refl a =
    let from = (same_class-Decides a.from a.from).1 refl in
    let to = (same_class-Decides a.to a.to).1 refl in
    λ i. from i && to i

-- what is seen, or was seen before
pub seen_cases : (before : Option Witness) (witness : Witness) (b : Bool) → is_some (earlier_of before (if b then Some witness else None)) ≡ true → (b ≡ true) ⊎ (is_some before ≡ true)
seen_cases before witness true h = inl refl
seen_cases None witness false h = absurd (true≢false (sym h))
seen_cases (Some w) witness false h = inr refl

module _ (rows : List Witnessed) where
  -- a row for each edge
  pub length_rows : length rows ≡ length (edges_of rows)
  length_rows = sym (length-map rows (λ r. r.edge))

  -- the edge of a row
  pub at_row : (k : ℕ) (d : Witnessed) (e : Edge) → k < length rows → get_or (edges_of rows) k e ≡ (get_or rows k d).edge
  at_row k d e within = get_or-map (λ r. r.edge) rows k d e within

  -- the row of an edge that was found
  pub found_row : (a b n : ℕ) → IsEdgeNumber (edges_of rows) a b n → (n < length rows) × ((d : Witnessed) → (get_or rows n d).edge ≡ edge a b)
  found_row a b n found =
      let within : n < length rows = subst (λ m. n < m) (sym length_rows) (slice_get_within (edges_of rows) n (edge a b) found.there) in
      (within, λ d. sym (at_row n d (edge a b) within) ∙ get_or_from_slice_get (edges_of rows) n (edge a b) (edge a b) found.there)

  -- an edge that has a row is one of them
  pub edge_of_row : (a b k : ℕ) (d : Witnessed) → k < length rows → (get_or rows k d).edge ≡ edge a b → IsEdge (edges_of rows) a b
  edge_of_row a b k d within same = (k, subst (λ m. k < m) length_rows within, at_row k d (edge a b) within ∙ same)

-- one more row, and one in place of another with the same edge
pub edges-pushed : (rows : List Witnessed) (r : Witnessed) (e : Edge) → r.edge ≡ e → edges_of (rows ++ r ∷ []) ≡ edges_of rows ++ e ∷ []
edges-pushed rows r e same = map-append (λ x. x.edge) rows (r ∷ []) ∙ (λ i. edges_of rows ++ same i ∷ [])

pub edges-set : (rows : List Witnessed) (n : ℕ) (e : Edge) → n < length rows → ((d : Witnessed) → (get_or rows n d).edge ≡ e) → (r : Witnessed) → r.edge ≡ e → edges_of (set rows n r) ≡ edges_of rows
edges-set rows n e within at r same =
    map-set (λ x. x.edge) rows n r
    ∙ ap (set (edges_of rows) n) (same ∙ sym (at r) ∙ sym (get_or-map (λ x. x.edge) rows n r r.edge within))
    ∙ set-get_or (edges_of rows) n r.edge

module _ (classes : List PlainClass) (rows : List Witnessed) (is : AreBetween classes rows) where
  -- an edge lies between two classes
  pub ends_of_edge : (a b : ℕ) → IsEdge (edges_of rows) a b → (a < length classes) × (b < length classes)
  ends_of_edge a b there = subst (λ (e : Edge). (e.from < length classes) × (e.to < length classes)) there.2 (is.ends there.0 (edge a b) there.1)

  -- and so does that of a row
  pub ends_of_row : (k : ℕ) (d : Witnessed) → k < length rows → ((get_or rows k d).edge.from < length classes) × ((get_or rows k d).edge.to < length classes)
  ends_of_row k d within =
      ends_of_edge (get_or rows k d).edge.from (get_or rows k d).edge.to (k, subst (λ m. k < m) (length_rows rows) within, at_row rows k d (get_or rows k d).edge within)

  -- edges that stand for the same dependency are the same
  edge_from_named : (e f : Edge) → (e.from < length classes) × (e.to < length classes) → (f.from < length classes) × (f.to < length classes)
      → named_edge classes e ≡ named_edge classes f → e ≡ f
  edge_from_named e f at_e at_f same =
      let from = is.distinct e.from f.from (get_or classes f.from no_class) (at_e.0, ap (λ (d : Dependency). d.from) same) (at_f.0, refl) in
      let to = is.distinct e.to f.to (get_or classes f.to no_class) (at_e.1, ap (λ (d : Dependency). d.to) same) (at_f.1, refl) in
      λ i. edge (from i) (to i)

  -- two rows stand for two dependencies
  pub apart_rows : (i j : ℕ) (d : Witnessed) → i < j → j < length rows → named_edge classes (get_or rows i d).edge ≢ named_edge classes (get_or rows j d).edge
  apart_rows i j d before within same =
      let i_within : i < length rows = omega arith in
      is.once i j d.edge before (subst (λ m. j < m) (length_rows rows) within)
      (at_row rows i d d.edge i_within ∙ edge_from_named (get_or rows i d).edge (get_or rows j d).edge (ends_of_row i d i_within) (ends_of_row j d within) same ∙ sym (at_row rows j d d.edge within))

  module _ (first : Dependency → Option Witness) (witnessed : AreWitnessed classes rows first) (what : Dependency) where
    -- what no row stands for has no first witness
    none_from_rows : ((k : ℕ) (d : Witnessed) → k < length rows → named_edge classes (get_or rows k d).edge ≢ what) → first what ≡ None
    none_from_rows none = by (first what) refl
      where
        by : (o : Option Witness) → first what ≡ o → o ≡ None
        by None h = refl
        by (Some w) h =
            let at = witnessed.all what (ap is_some h) in
            absurd (none at.0 at.1 at.2 (ap (λ (x : Witnessed). named_edge classes x.edge) at.3 ∙ at.4))

    -- so a dependency of a class that isn't there has none
    pub none_from : place_of classes what.from ≡ None → first what ≡ None
    none_from unknown = none_from_rows (λ k d within same. place_of-None classes what.from (get_or rows k d).edge.from unknown ((ends_of_row k d within).0, ap (λ (x : Dependency). x.from) same))

    pub none_to : place_of classes what.to ≡ None → first what ≡ None
    none_to unknown = none_from_rows (λ k d within same. place_of-None classes what.to (get_or rows k d).edge.to unknown ((ends_of_row k d within).1, ap (λ (x : Dependency). x.to) same))

    -- and one whose edge isn't in the graph
    pub none_edge : (a b : ℕ) → IsNameAt classes a what.from → IsNameAt classes b what.to → ¬ IsEdge (edges_of rows) a b → first what ≡ None
    none_edge a b from to new = none_from_rows (λ k d within same.
        new (edge_of_row rows a b k d within (edge_from_named (get_or rows k d).edge (edge a b) (ends_of_row k d within) (from.0, to.0)
        (same ∙ (λ i. record { from = sym from.1 i; to = sym to.1 i })))))

    -- the witness of an edge that was found
    pub first_at : (a b n : ℕ) (d : Witnessed) → IsNameAt classes a what.from → IsNameAt classes b what.to → IsEdgeNumber (edges_of rows) a b n → Some (get_or rows n d).first ≡ first what
    first_at a b n d from to found =
        let at = found_row rows a b n found in
        sym (witnessed.each n d at.0) ∙ ap (λ e. first (named_edge classes e)) (at.1 d) ∙ ap first (λ i. record { from = from.1 i; to = to.1 i })

  module _ (e : Edge) (e_ends : (e.from < length classes) × (e.to < length classes)) where
    -- the test at a row with another edge
    other_row : (k : ℕ) (d : Witnessed) → k < length rows → ((get_or rows k d).edge ≢ e) → same_dependency (named_edge classes (get_or rows k d).edge) (named_edge classes e) ≡ false
    other_row k d within differs = false_from_ne_true _ (λ same. differs (edge_from_named (get_or rows k d).edge e (ends_of_row k d within) e_ends (same_dependency-true _ _ same)))

    module _ (first : Dependency → Option Witness) (witnessed : AreWitnessed classes rows first) (witness : Witness) where
      -- of which dependency the first witness is which, once e was seen there
      abbrev then_first : Dependency → Option Witness
      then_first what = earlier_of (first what) (if same_dependency what (named_edge classes e) then Some witness else None)

      -- other dependencies keep theirs
      kept_row : (k : ℕ) (d : Witnessed) → k < length rows → ((get_or rows k d).edge ≢ e) → then_first (named_edge classes (get_or rows k d).edge) ≡ Some (get_or rows k d).first
      kept_row k d within differs =
          ap (λ (b : Bool). earlier_of (first (named_edge classes (get_or rows k d).edge)) (if b then Some witness else None)) (other_row k d within differs)
          ∙ sym (earlier_of-none (first (named_edge classes (get_or rows k d).edge)))
          ∙ witnessed.each k d within

      here_first : then_first (named_edge classes e) ≡ earlier_of (first (named_edge classes e)) (Some witness)
      here_first = ap (λ (b : Bool). earlier_of (first (named_edge classes e)) (if b then Some witness else None)) (same_dependency-refl (named_edge classes e))

    -- e is in no row: one more is put last
    module _ (new : ¬ IsEdge (edges_of rows) e.from e.to) where
      differs : (k : ℕ) (d : Witnessed) → k < length rows → (get_or rows k d).edge ≢ e
      differs k d within same = new (edge_of_row rows e.from e.to k d within same)

      pub numbered-pushed : (r : Witnessed) → r.edge ≡ e → AreBetween classes (rows ++ r ∷ [])
      numbered-pushed r same = record {
        distinct = is.distinct;
        ends = subst (All (λ x. (x.from < length classes) × (x.to < length classes))) (sym (edges-pushed rows r e same))
            (All-push (λ x. (x.from < length classes) × (x.to < length classes)) (edges_of rows) e is.ends e_ends);
        once = subst (AllPairs (λ x y. x ≢ y)) (sym (edges-pushed rows r e same)) (all_pairs_push (λ x y. x ≢ y) (edges_of rows) e is.once
            (λ k d within same_edge. new (k, within, get_or_default (edges_of rows) k e d within ∙ same_edge)));
      }

      none_before : (first : Dependency → Option Witness) → AreWitnessed classes rows first → first (named_edge classes e) ≡ None
      none_before first witnessed = none_edge first witnessed (named_edge classes e) e.from e.to (e_ends.0, refl) (e_ends.1, refl) new

      pub witnessed-pushed : (r : Witnessed) → r.edge ≡ e → (first : Dependency → Option Witness) → AreWitnessed classes rows first
          → AreWitnessed classes (rows ++ r ∷ []) (λ what. earlier_of (first what) (if same_dependency what (named_edge classes e) then Some r.first else None))
      witnessed-pushed r same first witnessed = record { each = each; all = all }
        where
          each : All (λ x. then_first first witnessed r.first (named_edge classes x.edge) ≡ Some x.first) (rows ++ r ∷ [])
          each =
              All-push (λ x. then_first first witnessed r.first (named_edge classes x.edge) ≡ Some x.first) rows r
              (λ k d within. kept_row first witnessed r.first k d within (differs k d within))
              (ap (λ x. then_first first witnessed r.first (named_edge classes x)) same ∙ here_first first witnessed r.first ∙ ap (λ o. earlier_of o (Some r.first)) (none_before first witnessed))

          all : (what : Dependency) → is_some (then_first first witnessed r.first what) ≡ true → Any (λ x. named_edge classes x.edge ≡ what) (rows ++ r ∷ [])
          all what h = by (seen_cases (first what) r.first (same_dependency what (named_edge classes e)) h)
            where
              by : (same_dependency what (named_edge classes e) ≡ true) ⊎ (is_some (first what) ≡ true) → Any (λ x. named_edge classes x.edge ≡ what) (rows ++ r ∷ [])
              by (inl here) = Any-push (λ x. named_edge classes x.edge ≡ what) rows r (ap (named_edge classes) same ∙ sym (same_dependency-true what (named_edge classes e) here))
              by (inr before) =
                  let at = witnessed.all what before in
                  (at.0, at.1, omega (arith, at.2, length_push rows r), get_or_append_left rows (r ∷ []) at.1 at.0 at.2 ∙ at.3, at.4)

  -- e is in row n: it gets the earlier witness
  module _ (n : ℕ) (e : Edge) (within : n < length rows) (at : (d : Witnessed) → (get_or rows n d).edge ≡ e) (r : Witnessed) (same : r.edge ≡ e) where
    e_ends : (e.from < length classes) × (e.to < length classes)
    e_ends = subst (λ (x : Edge). (x.from < length classes) × (x.to < length classes)) (at r) (ends_of_row n r within)

    -- no other row has it
    apart : (k : ℕ) (d : Witnessed) → k < length rows → k ≢ n → (get_or rows k d).edge ≢ e
    apart k d k_within k_differs same_edge = by (cases_order k n)
      where
        by : (k ≡ n) ⊎ ((k < n) ⊎ (n < k)) → ⊥
        by (inl equal) = k_differs equal
        by (inr (inl before)) = is.once k n e before (subst (λ m. n < m) (length_rows rows) within) (at_row rows k d e k_within ∙ same_edge ∙ sym (at_row rows n d e within ∙ at d))
        by (inr (inr after)) = is.once n k e after (subst (λ m. k < m) (length_rows rows) k_within) (at_row rows n d e within ∙ at d ∙ sym (at_row rows k d e k_within ∙ same_edge))

    pub witnessed-set : (witness : Witness) → r.first ≡ earlier (get_or rows n r).first witness → (first : Dependency → Option Witness) → AreWitnessed classes rows first
        → AreWitnessed classes (set rows n r) (λ what. earlier_of (first what) (if same_dependency what (named_edge classes e) then Some witness else None))
    witnessed-set witness earliest first witnessed = record { each = each; all = all }
      where
        each : All (λ x. then_first e e_ends first witnessed witness (named_edge classes x.edge) ≡ Some x.first) (set rows n r)
        each k d k_within = by (cases_eq k n)
          where
            k_in : k < length rows
            k_in = subst (λ m. k < m) (length-set rows n r) k_within

            by : (k ≡ n) ⊎ (k ≢ n) → then_first e e_ends first witnessed witness (named_edge classes (get_or (set rows n r) k d).edge) ≡ Some (get_or (set rows n r) k d).first
            by (inl equal) =
                subst (λ (x : Witnessed). then_first e e_ends first witnessed witness (named_edge classes x.edge) ≡ Some x.first)
                (sym (ap (λ m. get_or (set rows n r) m d) equal ∙ get_or-set_same rows n r d within))
                (ap (λ x. then_first e e_ends first witnessed witness (named_edge classes x)) same
                ∙ here_first e e_ends first witnessed witness
                ∙ ap (λ o. earlier_of o (Some witness)) (ap (λ x. first (named_edge classes x)) (sym (at r)) ∙ witnessed.each n r within)
                ∙ ap Some (sym earliest))
            by (inr other) =
                subst (λ (x : Witnessed). then_first e e_ends first witnessed witness (named_edge classes x.edge) ≡ Some x.first) (sym (get_or-set_other rows n k r d other))
                (kept_row e e_ends first witnessed witness k d k_in (apart k d k_in other))

        all : (what : Dependency) → is_some (then_first e e_ends first witnessed witness what) ≡ true → Any (λ x. named_edge classes x.edge ≡ what) (set rows n r)
        all what h = by (seen_cases (first what) witness (same_dependency what (named_edge classes e)) h)
          where
            here : named_edge classes e ≡ what → Any (λ x. named_edge classes x.edge ≡ what) (set rows n r)
            here is_what = any-set (λ x. named_edge classes x.edge ≡ what) rows n r within (ap (named_edge classes) same ∙ is_what)

            by : (same_dependency what (named_edge classes e) ≡ true) ⊎ (is_some (first what) ≡ true) → Any (λ x. named_edge classes x.edge ≡ what) (set rows n r)
            by (inl is_here) = here (sym (same_dependency-true what (named_edge classes e) is_here))
            by (inr before) = by_place (cases_eq found.0 n)
              where
                found : Any (λ x. named_edge classes x.edge ≡ what) rows
                found = witnessed.all what before

                by_place : (found.0 ≡ n) ⊎ (found.0 ≢ n) → Any (λ x. named_edge classes x.edge ≡ what) (set rows n r)
                by_place (inl equal) = here (ap (named_edge classes) (sym (at found.1)) ∙ ap (λ m. named_edge classes (get_or rows m found.1).edge)
                    (sym equal) ∙ ap (λ (x : Witnessed). named_edge classes x.edge) found.3 ∙ found.4)
                by_place (inr other) = (found.0, found.1, subst (λ m. found.0 < m) (sym (length-set rows n r)) found.2, get_or-set_other rows n found.0 r found.1 other ∙ found.3, found.4)

-- more classes change nothing of the dependencies that are kept
pub witnessed-longer : (classes more : List PlainClass) (rows : List Witnessed) (count : ℕ) → AreBetween classes rows → IsLonger classes more count
    → (first : Dependency → Option Witness) → AreWitnessed classes rows first → AreWitnessed more rows first
witnessed-longer classes more rows count is longer first witnessed = record {
  each = λ k d within. ap first (same k d within) ∙ witnessed.each k d within;
  all = λ what h.
      let at = witnessed.all what h in
      (at.0, at.1, at.2, at.3, ap (λ (x : Witnessed). named_edge more x.edge) (sym at.3) ∙ same at.0 at.1 at.2 ∙ ap (λ (x : Witnessed). named_edge classes x.edge) at.3 ∙ at.4);
}
  where
    name : (i : ℕ) → i < length classes → get_or more i no_class ≡ get_or classes i no_class
    name i within = sym (get_or-take (length classes) more i no_class within) ∙ ap (λ names. get_or names i no_class) longer.front

    same : (k : ℕ) (d : Witnessed) → k < length rows → named_edge more (get_or rows k d).edge ≡ named_edge classes (get_or rows k d).edge
    same k d within =
        let ends = ends_of_row classes rows is k d within in
        λ i. record { from = name (get_or rows k d).edge.from ends.0 i; to = name (get_or rows k d).edge.to ends.1 i }

pub numbered-longer : (classes more : List PlainClass) (rows : List Witnessed) (count : ℕ) → AreDistinct more → AreBetween classes rows → IsLonger classes more count → AreBetween more rows
numbered-longer classes more rows count distinct is longer = record {
  distinct = distinct;
  ends = λ k d within. let ends = is.ends k d within in (omega (arith, ends.0, longer.least), omega (arith, ends.1, longer.least));
  once = is.once;
}
