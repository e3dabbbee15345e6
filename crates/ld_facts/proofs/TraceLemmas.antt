-- What a batch has stays what it is when a trace adds classes.
use Rattle.std.proofs.Common.{◌≡◌, ◌<◌, ◌∷◌, [], All, List, ℕ, length, map, get_or, refl, ap, sym, ◌∙◌, arith}
use Rattle.std.proofs.lemmas.List.{get_or-take}
use Rattle.std.proofs.lemmas.List.Elements.{All-head, All-tail, All-weaker}
use Rattle.ld_class.specs.Names.{PlainClass, no_class}
use Rattle.ld_rules.specs.Usage.{bit_of}
use Rattle.ld_batch.specs.declared.rows.WitnessedEdge.{WitnessedEdge}
use Rattle.ld_batch.specs.declared.rows.WitnessedUse.{WitnessedUse}
use Rattle.ld_batch.specs.Batch.{IsUse, IsBetween, named_dependency, named_use}
use Rattle.ld_batch.specs.Inner.Names.{IsLonger}

-- two maps that agree on each element
pub same_maps : {X Y : Type 0} (f g : X → Y) (P : X → Type 0) → ((x : X) → P x → f x ≡ g x) → (xs : List X) → All P xs → map f xs ≡ map g xs
same_maps f g P agree [] all = refl
same_maps f g P agree (x ∷ xs) all =
    let here = agree x (All-head P x xs all) in
    let rest = same_maps f g P agree xs (All-tail P x xs all) in
    (λ i. here i ∷ rest i)

-- more names, among which those that were there keep their places
module _ (names more : List PlainClass) (count : ℕ) (longer : IsLonger names more count) where
  pub same_name : (k : ℕ) → k < length names → get_or more k no_class ≡ get_or names k no_class
  same_name k within = sym (get_or-take (length names) more k no_class within) ∙ ap (λ all. get_or all k no_class) longer.front

  pub edges-longer : (rows : List WitnessedEdge) → All (IsBetween names) rows → map (named_dependency more) rows ≡ map (named_dependency names) rows
  edges-longer = same_maps (named_dependency more) (named_dependency names) (IsBetween names)
      (λ e h i. record { what = record { from = same_name e.from h.0 i; to = same_name e.to h.1 i }; witness = e.witness })

  pub within-longer : (rows : List WitnessedEdge) → All (IsBetween names) rows → All (IsBetween more) rows
  within-longer rows within = All-weaker (IsBetween names) (IsBetween more) (λ e h. (omega (arith, h.0, longer.least), omega (arith, h.1, longer.least))) rows within

  pub uses-longer : (rows : List WitnessedUse) → All (IsUse names) rows → map (named_use more) rows ≡ map (named_use names) rows
  uses-longer = same_maps (named_use more) (named_use names) (IsUse names)
      (λ u h i. record { what = record { class = same_name u.class h.0 i; bit = bit_of u.bit }; witness = u.witness })

  pub used-longer : (rows : List WitnessedUse) → All (IsUse names) rows → All (IsUse more) rows
  used-longer rows within = All-weaker (IsUse names) (IsUse more) (λ u h. (omega (arith, h.0, longer.least), h.1)) rows within
