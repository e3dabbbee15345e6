-- Walks to one class by some of the edges, among which are all that lead there.
use Rattle.std.proofs.Common.{◌≡◌, inl, inr, ℕ, ◌+◌, ◌<◌, List, [], ◌∷◌, Bool, true, false, Contains, nat_eq, length, get_or, arith, refl, sym, ◌∙◌}
use Rattle.std.proofs.lemmas.Bool.{eqb-true}
use Rattle.std.proofs.lemmas.List.{get_or_default}
use Rattle.std.proofs.lemmas.Map.Keys.{IsDistinct-from_apart}
use Rattle.std.specs.List.{IsDistinct}
use Rattle.ld_graph.specs.Walks.{HasWalk, IsDistance, IsShownWalk, IsWalk, LeadsTo, Reaches, ShownFrom}
use Rattle.ld_graph.proofs.SpreadLemmas.{level_within}
use Rattle.ld_graph.proofs.WalkLemmas.{IsWalk-same}
use Rattle.ld_tree.specs.Trees.{IsTreeOf, PlainLeading, PlainTree, nth}

module _ (s t before : ℕ → ℕ → Type 0) (e : ℕ) (real : (x y : ℕ) → s x y → t x y) (leads : (x y : ℕ) → t x y → Reaches t y e → s x y) where
  leads_to : (a : ℕ) (w : List ℕ) → LeadsTo t a e w → LeadsTo s a e w
  leads_to a [] h = h
  leads_to a (x ∷ []) h = (leads a x h.0 (inl h.1), h.1)
  leads_to a (x ∷ y ∷ more) h = (leads a x h.0 (inr (x ∷ y ∷ more, (refl, h.1))), leads_to x (y ∷ more) h.1)

  walk_to : (a : ℕ) (w : List ℕ) → IsWalk t a e w → IsWalk s a e w
  walk_to a [] h = h
  walk_to a (x ∷ more) h = (h.0, leads_to a more h.1)

  pub HasWalk-leading : (a : ℕ) → HasWalk t a e → HasWalk s a e
  HasWalk-leading a h = (h.0, walk_to a h.0 h.1)

  pub HasWalk-real : (a : ℕ) → HasWalk s a e → HasWalk t a e
  HasWalk-real a h = (h.0, IsWalk-same s t real a e h.0 h.1)

  distance_real : (a n : ℕ) → IsDistance s a e n → IsDistance t a e n
  distance_real a n h = record {
    reached = (h.reached.0, (IsWalk-same s t real a e h.reached.0 h.reached.1.0, h.reached.1.1));
    least = λ w i. h.least w (walk_to a w i);
  }

  distance_leading : (a n : ℕ) → IsDistance t a e n → IsDistance s a e n
  distance_leading a n h = record {
    reached = (h.reached.0, (walk_to a h.reached.0 h.reached.1.0, h.reached.1.1));
    least = λ w i. h.least w (IsWalk-same s t real a e w i);
  }

  shown_from : (a : ℕ) (w : List ℕ) → ShownFrom s before a e w → ShownFrom t before a e w
  shown_from a [] h = h
  shown_from a (x ∷ []) h = (distance_real a 1 h.0, h.1)
  shown_from a (x ∷ y ∷ more) h = (
    (
      h.0.0,
      (
        distance_real a (h.0.0 + 2) h.0.1.0,
        record {
          successor = real a x h.0.1.1.successor;
          nearer = distance_real x (h.0.0 + 1) h.0.1.1.nearer;
          least = λ z edge d. h.0.1.1.least z (leads a z edge (inr (d.reached.0, d.reached.1.0))) (distance_leading z (h.0.0 + 1) d);
        },
      ),
    ),
    shown_from x (y ∷ more) h.1,
  )

  pub IsShownWalk-leading : (a : ℕ) (w : List ℕ) → IsShownWalk s before a e w → IsShownWalk t before a e w
  IsShownWalk-leading a [] h = h
  IsShownWalk-leading a (x ∷ more) h = (h.0, shown_from a more h.1)

module _ (leading : PlainLeading) (start : ℕ) (tree : PlainTree) (is : IsTreeOf leading start tree) where
  -- what was found has a number, so it is one of the classes
  pub found-within : (n : ℕ) → length tree.numbers ≡ n → (c : ℕ) → Contains tree.found c → c < n
  found-within n len c m =
      let b = m.1 in
      let w = level_within tree.numbers (nth tree.found m.0) m.0 (is.numbered m.0 b) in
      let same = get_or_default tree.found m.0 0 c b ∙ m.2 in
      omega (arith, w, same, len)

  -- and was found once
  pub found-once : IsDistinct nat_eq tree.found
  found-once = IsDistinct-from_apart nat_eq tree.found (λ i j d less low. by i j d less low (nat_eq (get_or tree.found i d) (get_or tree.found j d)) refl)
    where
      by : (i j d : ℕ) → i < j → j < length tree.found → (r : Bool) → nat_eq (get_or tree.found i d) (get_or tree.found j d) ≡ r → nat_eq (get_or tree.found i d) (get_or tree.found j d) ≡ false
      by i j d less low false e = e
      by i j d less low true e =
          let at_i = get_or_default tree.found i d 0 (omega (arith, less, low)) in
          let at_j = get_or_default tree.found j d 0 low in
          let same = is.walks.once i j (omega (arith, less, low)) low (sym at_i ∙ eqb-true (get_or tree.found i d) (get_or tree.found j d) e ∙ at_j) in
          absurd (omega (arith, same, less))
