-- An edge in a list, as tests find it.
use Rattle.std.proofs.Common.{◌≡◌, ◌≢◌, ◌⊎◌, inl, inr, ◌++◌, set, if◌then◌else◌, ℕ, ◌<◌, Bool}
use Rattle.std.proofs.Common.{true, false, true≢false, ◌&&◌, nat_eq, List, [], ◌∷◌, length, get_or}
use Rattle.std.proofs.Common.{slice_get, position, Some, arith, refl, sym, ap, subst}
use Rattle.std.proofs.Common.{◌∙◌, ◌↔◌}
use Rattle.std.specs.List.{list_any, IsDistinct}
use Rattle.std.proofs.lemmas.Map.Keys.{apart_from_distinct}
use Rattle.std.proofs.lemmas.List.Folds.{list_any_at}
use Rattle.std.proofs.lemmas.List.Elements.{Contains-append_left, Contains-push}
use Rattle.std.proofs.lemmas.List.Elements.{Contains-push_cases}
use Rattle.std.proofs.lemmas.Bool.{and_parts, eqb-true, eq-eqb}
use Rattle.std.proofs.lemmas.List.Quantifiers.{position-Some}
use Rattle.std.proofs.lemmas.Option.{slice_get-get_or, get_or_from_slice_get}
use Rattle.indexmap.proofs.CallerLemmas.{Contains-list_any}
use Rattle.ld_graph.specs.declared.Edge.{Edge}
use Rattle.ld_graph.specs.Edges.{edge, IsEdge, IsEdgeNumber}
use Rattle.ld_graph.specs.Lists.{list_at, IsNear}
use Rattle.ld_graph.proofs.NearLemmas.{IsNear-push, IsNear-old, IsNear-new}
use Rattle.indexmap.specs.IndexSet.{insert_key}

-- what `==` computes
abbrev pub same_edge : Edge → Edge → Bool
same_edge x y = nat_eq x.from y.from && nat_eq x.to y.to

pub same_edge-≡ : (x y : Edge) → same_edge x y ≡ true → x ≡ y
same_edge-≡ x y e =
    let h = and_parts (nat_eq x.from y.from) (nat_eq x.to y.to) e in
    ap (λ f. edge f x.to) (eqb-true x.from y.from h.0) ∙ ap (λ t. edge y.from t) (eqb-true x.to y.to
    h.1)

pub same_edge-refl : (x : Edge) → same_edge x x ≡ true
same_edge-refl x = ap (λ b. b && nat_eq x.to x.to) (eq-eqb x.from x.from refl)
    ∙ eq-eqb x.to x.to refl

pub IsEdge-found : (edges : List Edge) (a b : ℕ) → list_any (same_edge (edge a b)) edges ≡ true
    → IsEdge edges a b
IsEdge-found edges a b e = Contains-list_any same_edge same_edge-≡ edges (edge a b) e

-- an edge that no test finds isn't there
pub IsEdge-missing : (edges : List Edge) (a b : ℕ) → list_any (same_edge (edge a b)) edges ≡ false
    → ¬ IsEdge edges a b
IsEdge-missing edges a b e h =
    true≢false (sym (list_any_at (same_edge (edge a b)) edges h.0 (edge a b) h.1
    (ap (λ x. same_edge (edge a b) x) h.2 ∙ same_edge-refl (edge a b))) ∙ e)

pub IsEdgeNumber-position : (edges : List Edge) (a b i : ℕ)
    → position (same_edge (edge a b)) edges ≡ Some i → IsEdgeNumber edges a b i
IsEdgeNumber-position edges a b i e =
    let h = position-Some (same_edge (edge a b)) edges i (edge a b) e in
    record {
      there = slice_get-get_or edges i (edge a b) h.0 ∙ ap (λ x. Some x) (sym (same_edge-≡ (edge a
          b) (get_or edges i (edge a b)) h.1));
      first = λ j l f.
          let g = get_or_from_slice_get edges j (edge a b) (edge a b) f in
          true≢false (sym (same_edge-refl (edge a b)) ∙ ap (λ x. same_edge (edge a b) x) (sym g)
          ∙ h.2 j l);
    }

-- the edges of a list with one more
pub IsEdge-push : (edges : List Edge) (a b x y : ℕ) → IsEdge (edges ++ edge a b ∷ []) x y
    → IsEdge edges x y ⊎ ((a ≡ x) × (b ≡ y))
IsEdge-push edges a b x y h = elim (Contains-push_cases edges (edge a b) (edge x y) h) [
  | inl e ↦ inl e
  | inr e ↦ inr (ap (λ k. k.from) e, ap (λ k. k.to) e)
]

-- what the lists have in one more place
module _ (lists : List (List ℕ)) (near new : ℕ → ℕ → Type 0) (a b : ℕ) (l : a < length lists) (is : new a b)
    (push : (x y : ℕ) → new x y → near x y ⊎ ((a ≡ x) × (b ≡ y))) (old : (x y : ℕ) → near x y → new x y)
    (same : (x y : ℕ) → IsNear lists x y ↔ near x y) where
  near_more : (x y : ℕ) → IsNear (set lists a (list_at lists a ++ b ∷ [])) x y ↔ new x y
  near_more x y = (λ h. to (IsNear-push lists a b x y l h), λ h. back (push x y h))
    where
      to : IsNear lists x y ⊎ ((a ≡ x) × (b ≡ y)) → new x y
      to (inl h) = old x y ((same x y).0 h)
      to (inr e) = subst (λ z. new z y) e.0 (subst (λ z. new a z) e.1 is)

      back : near x y ⊎ ((a ≡ x) × (b ≡ y)) → IsNear (set lists a (list_at lists a ++ b ∷ [])) x y
      back (inl h) = IsNear-old lists a b x y l ((same x y).1 h)
      back (inr e) = subst (λ z. IsNear (set lists a (list_at lists a ++ b ∷ [])) z y) e.0 (subst (λ
          z. IsNear (set lists a (list_at lists a ++ b ∷ [])) a z) e.1 (IsNear-new lists a b l))

-- both grow by the same edge
pub IsNear-edge : (lists : List (List ℕ)) (edges : List Edge) (a b : ℕ) → a < length lists
    → ((x y : ℕ) → IsNear lists x y ↔ IsEdge edges x y)
    → (x y : ℕ) → IsNear (set lists a (list_at lists a ++ b ∷ [])) x y
    ↔ IsEdge (edges ++ edge a b ∷ []) x y
IsNear-edge lists edges a b l same = near_more lists (IsEdge edges) (IsEdge (edges ++ edge a b ∷ [])) a b l
    (Contains-push edges (edge a b)) (λ x y h. IsEdge-push edges a b x y h)
    (λ x y e. Contains-append_left edges (edge a b ∷ []) (edge x y) e) same

pub IsNear-turned : (lists : List (List ℕ)) (edges : List Edge) (a b : ℕ) → b < length lists
    → ((x y : ℕ) → IsNear lists x y ↔ IsEdge edges y x)
    → (x y : ℕ) → IsNear (set lists b (list_at lists b ++ a ∷ [])) x y
    ↔ IsEdge (edges ++ edge a b ∷ []) y x
IsNear-turned lists edges a b l same = near_more lists (λ x y. IsEdge edges y x) (λ x y. IsEdge (edges ++ edge a b ∷ []) y x) b a l
    (Contains-push edges (edge a b)) (λ x y h. turn x y (IsEdge-push edges a b y x h))
    (λ x y e. Contains-append_left edges (edge a b ∷ []) (edge y x) e) same
  where
    turn : (x y : ℕ) → IsEdge edges y x ⊎ ((a ≡ y) × (b ≡ x)) → IsEdge edges y x ⊎ ((b ≡ x) × (a ≡ y))
    turn x y (inl h) = inl h
    turn x y (inr e) = inr (e.1, e.0)

-- the ends of the edges of a list with one more
pub ends_push : (edges : List Edge) (a b n : ℕ) → a < n → b < n → ((x y : ℕ) → IsEdge edges x y
    → (x < n) × (y < n))
    → (x y : ℕ) → IsEdge (edges ++ edge a b ∷ []) x y → (x < n) × (y < n)
ends_push edges a b n l m ends x y h = elim (IsEdge-push edges a b x y h) [
  | inl e ↦ ends x y e
  | inr e ↦ (subst (λ z. z < n) e.0 l, subst (λ z. z < n) e.1 m)
]

-- a key that isn't there goes last
pub insert_key-new : (edges : List Edge) (e : Edge) → list_any (same_edge e) edges ≡ false
    → insert_key same_edge edges e ≡ edges ++ e ∷ []
insert_key-new edges e h = ap (λ b. if b then edges else edges ++ e ∷ []) h

-- one that is there changes nothing
pub insert_key-known : (edges : List Edge) (e : Edge) → list_any (same_edge e) edges ≡ true
    → insert_key same_edge edges e ≡ edges
insert_key-known edges e h = ap (λ b. if b then edges else edges ++ e ∷ []) h

-- in a list of distinct edges each stands once
pub edges_once : (edges : List Edge) → IsDistinct same_edge edges → (i j : ℕ) → i < j
    → j < length edges → slice_get edges i ≢ slice_get edges j
edges_once edges h i j a b e =
    let l : i < length edges = omega arith in
    let p = slice_get-get_or edges i (edge 0 0) l in
    let q = slice_get-get_or edges j (edge 0 0) b in
    let r : Some (get_or edges i (edge 0 0)) ≡ Some (get_or edges j (edge 0 0)) = sym p ∙ e ∙ q in
    let s : get_or edges i (edge 0 0) ≡ get_or edges j (edge 0 0) = cc in
    true≢false (sym (same_edge-refl (get_or edges i (edge 0 0)))
    ∙ ap (λ x. same_edge (get_or edges i (edge 0 0)) x) s
    ∙ apart_from_distinct same_edge edges i j (edge 0 0) h a b)

-- and so one that stands at a place has its number
pub IsEdgeNumber-stored : (edges : List Edge) (a b i : ℕ) (e : Edge) → IsDistinct same_edge edges → i < length edges
    → slice_get edges i ≡ Some e → same_edge (edge a b) e ≡ true → IsEdgeNumber edges a b i
IsEdgeNumber-stored edges a b i e distinct within stored same = record {
  there = there;
  first = λ j before is. edges_once edges distinct j i before within (is ∙ sym there);
}
  where
    there : slice_get edges i ≡ Some (edge a b)
    there = stored ∙ ap (λ x. Some x) (sym (same_edge-≡ (edge a b) e same))
