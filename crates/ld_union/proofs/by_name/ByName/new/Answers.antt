use Rattle.std.proofs.Common.{◌≡◌, ◌≢◌, ◌<◌, AllPairs, List, ℕ, length, sym, subst}
use Rattle.ld_union.specs.Inner.ByName.{class_at, place_of_class}
use Rattle.ld_union.proofs.ByNameLemmas.{apart_from_rising, by_name}
use Rattle.ld_union.proofs.by_name.ByName.new.Goals as goal

pub places_of-requires-clause-once : goal.places_of-requires-clause-once
places_of-requires-clause-once c =
    subst (AllPairs (λ a b. a ≢ b)) (sym c.deref.ensures.value) (apart_from_rising c.args.classes.now c.in_ok-numbers.numbers.items c.in_ok-numbers.ensures.rising)

pub returns : goal.returns
returns c =
    let numbers = c.in_ok-numbers.numbers.items in
    let places = c.in_ok-places.places.items in
    by_name c.args.classes.now numbers places c.in_ok-numbers.ensures.count c.in_ok-numbers.ensures.within c.in_ok-numbers.ensures.every
    c.in_ok-numbers.ensures.rising c.in_ok-places.ensures.len
    (subst (λ (ns : List ℕ). (i : ℕ) → i < length ns → place_of_class places (class_at ns i) ≡ i) c.deref.ensures.value c.in_ok-places.ensures.each)
