-- Lists of lists in which one grows.
use Rattle.std.proofs.Common.{◌≡◌, ◌≢◌, ℕ, ◌<◌, List, [], Vec, Global, nat_eq, length, get_or, set, arith, sym, ap, true≢false, ◌∙◌}
use Rattle.std.proofs.lemmas.Bool.{eq-eqb}
use Rattle.std.proofs.lemmas.List.{get_or-map, get_or-set_same, get_or-set_other, length-map, map-set}
use Rattle.std.proofs.lemmas.Map.Keys.{apart_from_distinct}
use Rattle.std.specs.List.{IsDistinct}
use Rattle.ld_graph.specs.Lists.{list_at}
use Rattle.ld_tree.specs.Inner.{items_of}

module _ (lists : List (Vec ℕ Global)) (y : ℕ) (within : y < length lists) where
  low : y < length (items_of lists)
  low = omega (arith, within, length-map lists (λ (v : Vec ℕ Global). v.items))

  pub items_at : (v : Vec ℕ Global) → v ≡ get_or lists y v → v.items ≡ list_at (items_of lists) y
  items_at v is = ap (λ (w : Vec ℕ Global). w.items) is ∙ sym (get_or-map (λ (w : Vec ℕ Global). w.items) lists y v [] within)

  module _ (v : Vec ℕ Global) where
    pub set_same : list_at (items_of (set lists y v)) y ≡ v.items
    set_same = ap (λ ls. list_at ls y) (map-set (λ (w : Vec ℕ Global). w.items) lists y v) ∙ get_or-set_same (items_of lists) y v.items [] low

    pub set_other : (x : ℕ) → x ≢ y → list_at (items_of (set lists y v)) x ≡ list_at (items_of lists) x
    set_other x ne = ap (λ ls. list_at ls x) (map-set (λ (w : Vec ℕ Global). w.items) lists y v) ∙ get_or-set_other (items_of lists) y x v.items [] ne

-- two places of a list without repetition have two numbers
pub apart_at : (xs : List ℕ) → IsDistinct nat_eq xs → (i j : ℕ) → i < j → j < length xs → get_or xs i 0 ≢ get_or xs j 0
apart_at xs once i j less low same = true≢false (sym (eq-eqb (get_or xs i 0) (get_or xs j 0) same) ∙ apart_from_distinct nat_eq xs i j 0 once less low)
