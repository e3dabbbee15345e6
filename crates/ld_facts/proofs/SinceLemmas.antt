-- What comes behind the first things of a list, each of which stands there once.
use Rattle.std.proofs.Common.{◌≡◌, ◌≢◌, ◌+◌, ◌≤◌, ◌++◌, ◌∷◌, [], All, AllPairs, Bool, true, false, List, ℕ, Option, Some, None, cond}
use Rattle.std.proofs.Common.{get_or, length, take, is_some, option_map, refl, ap, sym, subst, ◌∙◌, arith, if◌then◌else◌}
use Rattle.std.proofs.lemmas.Bool.{false_from_ne_true}
use Rattle.std.proofs.lemmas.List.{get_or-append-add, take-take}
use Rattle.std.proofs.lemmas.List.Elements.{All-head, All-tail}
use Rattle.std.proofs.lemmas.Option.{none-some}
use Rattle.std.proofs.Math.ListN.{length-append}
use Rattle.std.specs.Bool.{Decides}
use Rattle.std.specs.List.{find}
use Rattle.std.specs.Option.{option_or}
use Rattle.ld_trace.specs.Sources.{PlainSource}
use Rattle.ld_rules.specs.declared.outcome.Witness.{Witness}
use Rattle.ld_rules.specs.Dependency.{Seen}
use Rattle.ld_rules.specs.Union.{first_witness}
use Rattle.ld_rules.proofs.LeastLemmas.{first_pairs, later_pairs}
use Rattle.ld_batch.specs.Batch.{Met, first_since, witness_of}
use Rattle.ld_batch.specs.Inner.Rows.{earlier_of}
use Rattle.ld_batch.proofs.MetLemmas.{witness-append}
use Rattle.ld_batch.proofs.SinceLemmas.{witness-sources}

-- the first ones of a list stay the first ones of a longer one
pub front-stays : {X : Type 0} (old new : List X) (n : ℕ) → take (length old) new ≡ old → n ≤ length old → take n new ≡ take n old
front-stays old new n front few = sym (take-take n (length old) new few) ∙ ap (take n) front

-- no two of those behind the first ones
pub pairs-behind : {X : Type 0} (R : X → X → Type 0) (xs ys : List X) → AllPairs R (xs ++ ys) → AllPairs R ys
pairs-behind {X = X} R xs ys pairs i j d before within =
    subst (λ (x : X × X). R x.0 x.1) (λ k. (get_or-append-add xs ys i d k, get_or-append-add xs ys j d k))
    (pairs (length xs + i) (length xs + j) d (omega (arith, before)) (omega (arith, within, length-append xs ys)))

-- nothing is found where nothing passes
find-none : {X : Type 0} (p : X → Bool) (xs : List X) → All (λ x. p x ≡ false) xs → find p xs ≡ None
find-none p [] all = refl
find-none p (x ∷ xs) all = ap (λ b. cond b (Some x) (find p xs)) (All-head (λ y. p y ≡ false) x xs all) ∙ find-none p xs (All-tail (λ y. p y ≡ false) x xs all)

module _ {A : Type 0} (same : A → A → Bool) (decides : (a b : A) → Decides (same a b) (a ≡ b)) where
  abbrev Apart : Met A → Met A → Type 0
  Apart m n = m.what ≢ n.what

  -- what stands among the first ones doesn't stand behind them
  later-none : (xs ys : List (Met A)) (what : A) (w : Witness) → AllPairs Apart (xs ++ ys) → witness_of same xs what ≡ Some w → witness_of same ys what ≡ None
  later-none [] ys what w pairs found = absurd (none-some w found)
  later-none (x ∷ xs) ys what w pairs found = by (same what x.what) refl found (later-none xs ys what w (later_pairs Apart x (xs ++ ys) pairs))
    where
      by : (b : Bool) → same what x.what ≡ b → option_map (λ m. m.witness) (cond b (Some x) (find (λ m. same what m.what) xs)) ≡ Some w
          → (witness_of same xs what ≡ Some w → witness_of same ys what ≡ None) → witness_of same ys what ≡ None
      by true is _ _ = ap (option_map (λ m. m.witness)) (find-none (λ m. same what m.what) ys others)
        where
          others : All (λ m. same what m.what ≡ false) ys
          others k d within =
              let m = get_or ys k d in
              let apart : x.what ≢ m.what = subst (Apart x) (get_or-append-add xs ys k d) (first_pairs Apart x (xs ++ ys) pairs (length xs + k) d (omega (arith, within, length-append xs ys))) in
              false_from_ne_true (same what m.what) (λ alike. apart (sym ((decides what x.what).0 is) ∙ (decides what m.what).0 alike))
      by false is found' rest = rest found'

  -- The first witness of what stands behind the first ones, where all have that of some sources and more, and the first
  -- ones that of the sources.
  pub since-witness : (shown : PlainSource → List (Seen A)) (behind sources : List PlainSource) (xs ys : List (Met A)) (what : A) → AllPairs Apart (xs ++ ys)
      → witness_of same xs what ≡ first_witness same shown behind what
      → witness_of same (xs ++ ys) what ≡ first_witness same shown (behind ++ sources) what
      → witness_of same ys what ≡ first_since (first_witness same shown) behind sources what
  since-witness shown behind sources xs ys what pairs first all = by (first_witness same shown behind what) refl
    where
      both : option_or (witness_of same xs what) (witness_of same ys what) ≡ earlier_of (first_witness same shown behind what) (first_witness same shown sources what)
      both = sym (witness-append same xs ys what) ∙ all ∙ witness-sources same shown behind sources what

      by : (o : Option Witness) → first_witness same shown behind what ≡ o
          → witness_of same ys what ≡ (if is_some (first_witness same shown behind what) then None else first_witness same shown sources what)
      by None is =
          ap (λ o. option_or o (witness_of same ys what)) (sym (first ∙ is))
          ∙ both
          ∙ ap (λ o. earlier_of o (first_witness same shown sources what)) is
          ∙ sym (ap (λ (o : Option Witness). if is_some o then None else first_witness same shown sources what) is)
      by (Some w) is =
          later-none xs ys what w pairs (first ∙ is)
          ∙ sym (ap (λ (o : Option Witness). if is_some o then None else first_witness same shown sources what) is)
