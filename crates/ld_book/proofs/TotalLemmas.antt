-- How many dependencies are kept of some traces.
use Rattle.std.proofs.Common.{◌≡◌, ◌<◌, [], ◌∷◌, List, ℕ, Bool, true, false, ◌||◌, cond, Option, Some, None, is_some, length, map, min, filter}
use Rattle.std.proofs.Common.{flat_map, filter_map, get_or, refl, sym, ap, subst, ◌∙◌, arith}
use Rattle.std.proofs.lemmas.Bool.{true≢false, false_from_ne_true}
use Rattle.std.proofs.lemmas.List.{get_or-map, length-map}
use Rattle.std.proofs.lemmas.List.Folds.{Any-from_list_any, list_any-append, list_any_at}
use Rattle.std.proofs.lemmas.Map.Keys.{IsDistinct-from_apart}
use Rattle.std.proofs.lemmas.Map.Made.{length-from_same_keys}
use Rattle.std.specs.List.{cons_option, list_any, reduce}
use Rattle.ld_class.specs.Names.{PlainClass}
use Rattle.ld_class.proofs.Mapped.{list_any-map}
use Rattle.ld_graph.specs.Edges.{edge}
use Rattle.ld_trace.specs.Sources.{PlainSource}
use Rattle.ld_rules.specs.declared.outcome.Witness.{Witness}
use Rattle.ld_facts.specs.Dependency as dependencies
use Rattle.ld_facts.specs.Dependency.{Dependency, least_line, same_dependency}
use Rattle.ld_facts.specs.Union.{dependencies_of, dependency_witness, first_of, union_dependencies}
use Rattle.ld_rules.proofs.PlaceLemmas.{alike_from_decides, any_each_once}
use Rattle.ld_rules.proofs.StepLemmas.{Decides-same_dependency}
use Rattle.ld_union.specs.declared.dependencies.Witnessed.{Witnessed}
use Rattle.ld_union.specs.Inner.Union.{AreBetween, AreWitnessed, named_edge, seen_in}
use Rattle.ld_union.proofs.EachOnceLemmas.{IsDistinct-each_once, IsEquivalence-from_decides}
use Rattle.ld_union.proofs.UnionLemmas.{apart_rows, same_dependency-refl, same_dependency-true}

-- a dependency stands in a source where it has a line
seen_any : (number : ℕ) (shown : List (dependencies.Seen Dependency)) (what : Dependency) → list_any (same_dependency what)
    (map (λ (s : dependencies.Seen Dependency). s.what) shown) ≡ is_some (seen_in number (least_line same_dependency shown what))
seen_any number [] what = refl
seen_any number (s ∷ shown) what = by (seen_any number shown what) (same_dependency what s.what)
  where
    by : list_any (same_dependency what) (map (λ (s : dependencies.Seen Dependency). s.what) shown) ≡ is_some (seen_in number (least_line same_dependency shown what)) → (b : Bool)
        → (b || list_any (same_dependency what) (map (λ (s : dependencies.Seen Dependency). s.what) shown)) ≡ is_some
        (seen_in number (reduce min (map (λ (s : dependencies.Seen Dependency). s.line)
        (cond b (s ∷ filter (λ s. same_dependency what s.what) shown) (filter (λ s. same_dependency what s.what) shown)))))
    by others true = refl
    by others false = others

first_any : (more : Option Witness) (witnesses : List Witness) → is_some (first_of (cons_option more witnesses)) ≡ (is_some more || is_some (first_of witnesses))
first_any None witnesses = refl
first_any (Some w) witnesses = refl

-- a dependency is in the union where it has a witness
pub union_any : (sources : List PlainSource) (what : Dependency) → list_any (same_dependency what)
    (flat_map (λ source. map (λ (s : dependencies.Seen Dependency). s.what) (dependencies_of source)) sources) ≡ is_some (dependency_witness sources what)
union_any [] what = refl
union_any (source ∷ sources) what =
    list_any-append (same_dependency what) (map (λ (s : dependencies.Seen Dependency). s.what) (dependencies_of source))
    (flat_map (λ source. map (λ (s : dependencies.Seen Dependency). s.what) (dependencies_of source)) sources)
    ∙ (λ j. seen_any source.number (dependencies_of source) what j || union_any sources what j)
    ∙ sym (first_any (seen_in source.number (least_line same_dependency (dependencies_of source) what))
    (filter_map (λ s. seen_in s.number (least_line same_dependency (dependencies_of s) what)) sources))

-- a row stands for a dependency where it has a first witness
rows_any : (classes : List PlainClass) (rows : List Witnessed) (first : Dependency → Option Witness) → AreWitnessed classes rows first → (what : Dependency)
    → list_any (λ r. same_dependency what (named_edge classes r.edge)) rows ≡ is_some (first what)
rows_any classes rows first witnessed what = by (is_some (first what)) refl
  where
    absent : is_some (first what) ≡ false → list_any (λ r. same_dependency what (named_edge classes r.edge)) rows ≡ true → ⊥
    absent is there =
        let at = Any-from_list_any (λ (r : Witnessed). same_dependency what (named_edge classes r.edge)) rows there in
        let same : what ≡ named_edge classes (get_or rows at.0 at.1).edge = same_dependency-true what (named_edge classes at.1.edge) at.4 ∙ ap
        (λ (r : Witnessed). named_edge classes r.edge) (sym at.3) in
        true≢false (ap is_some (sym (witnessed.each at.0 at.1 at.2)) ∙ ap (λ x. is_some (first x)) (sym same) ∙ is)

    by : (b : Bool) → is_some (first what) ≡ b → list_any (λ r. same_dependency what (named_edge classes r.edge)) rows ≡ b
    by true is =
        let at = witnessed.all what is in
        list_any_at (λ (r : Witnessed). same_dependency what (named_edge classes r.edge)) rows at.0 at.1 at.2
        (ap (λ (r : Witnessed). same_dependency what (named_edge classes r.edge)) at.3 ∙ ap (same_dependency what) at.4 ∙ same_dependency-refl what)
    by false is = false_from_ne_true _ (absent is)

-- the edges are as many as the dependencies of the union
pub length-edges : (classes : List PlainClass) (rows : List Witnessed) (sources : List PlainSource) → AreBetween classes rows →
    AreWitnessed classes rows (dependency_witness sources)
    → length rows ≡ length (union_dependencies sources)
length-edges classes rows sources is witnessed =
    sym (length-map rows (λ r. named_edge classes r.edge))
    ∙ length-from_same_keys (IsEquivalence-from_decides same_dependency Decides-same_dependency) (map (λ r. named_edge classes r.edge) rows) (union_dependencies sources)
    (IsDistinct-from_apart same_dependency (map (λ r. named_edge classes r.edge) rows) apart)
    (IsDistinct-each_once same_dependency Decides-same_dependency shown)
    (λ what.
    list_any-map (λ (r : Witnessed). named_edge classes r.edge) (same_dependency what) rows
    ∙ rows_any classes rows (dependency_witness sources) witnessed what
    ∙ sym (union_any sources what)
    ∙ sym (any_each_once same_dependency (alike_from_decides same_dependency Decides-same_dependency) what shown))
  where
    shown : List Dependency
    shown = flat_map (λ source. map (λ s. s.what) (dependencies_of source)) sources

    no_row : Witnessed
    no_row = record { edge = edge 0 0; first = record { number = 0; line = 0 } }

    named : (k : ℕ) (d : Dependency) → k < length rows → get_or (map (λ (r : Witnessed). named_edge classes r.edge) rows) k d ≡ named_edge classes (get_or rows k no_row).edge
    named k d within = get_or-map (λ (r : Witnessed). named_edge classes r.edge) rows k no_row d within

    apart : (i j : ℕ) (d : Dependency) → i < j → j < length (map (λ (r : Witnessed). named_edge classes r.edge) rows) → same_dependency
        (get_or (map (λ (r : Witnessed). named_edge classes r.edge) rows) i d) (get_or (map (λ (r : Witnessed). named_edge classes r.edge) rows) j d) ≡ false
    apart i j d before within =
        let in_rows : j < length rows = subst (λ n. j < n) (length-map rows (λ r. named_edge classes r.edge)) within in
        false_from_ne_true _ (λ same. apart_rows classes rows is i j no_row before in_rows (sym (named i d (omega arith)) ∙ same_dependency-true _ _ same ∙ named j d in_rows))
