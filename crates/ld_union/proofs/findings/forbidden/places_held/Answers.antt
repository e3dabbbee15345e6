use Rattle.std.proofs.Common.{◌≡◌, ◌<◌, ◌∙◌, ◌∷◌, ◌++◌, ◌+◌, ℕ, Contains, Vec, ap, arith, get_or, length, subst, sym, true, [], List}
use Rattle.std.proofs.lemmas.Bool.{true≢false}
use Rattle.std.proofs.lemmas.List.{get_or_default}
use Rattle.std.proofs.lemmas.List.Elements.{Contains-get_or}
use Rattle.std.proofs.lemmas.List.Sorted.{Contains-permutation, IsPermutation-sym}
use Rattle.ld_class.specs.Usage.{has_bit, no_bits}
use Rattle.ld_rules.specs.Usage.Bit.{On}
use Rattle.ld_union.specs.Inner.Bits.{HasBitAt}
use Rattle.ld_union.specs.Inner.ByName.{class_at, place_of_class}
use Rattle.ld_union.specs.Usage.{bits_of}
use Rattle.ld_union.proofs.StayingLemmas.{AreStaying, AreStaying-none, AreStaying-one_more, AreStaying-other, increasing_from_sort}
use Rattle.ld_union.proofs.findings.forbidden.places_held.Goals as goal
use Rattle.ld_union.proofs.findings.forbidden.places_held.Goals.{then-has+in_ok-push, else-has}

pub loop-class-init : goal.loop-class-init
loop-class-init c =
    let kind = λ (k : ℕ). has_bit (get_or (bits_of c.args.indexed.union.now.usage) k no_bits) c.on_bit-held.result ≡ true in
    subst (AreStaying c.args.found.now c.args.indexed.order.now.places.items kind 0) (sym c.new-places.ensures.items)
    (AreStaying-none c.args.found.now c.args.indexed.order.now.places.items kind)

pub has-requires : goal.has-requires
has-requires c =
    let w = c.requires.within (get_or c.args.found.now c.loop-class.class-index 0) (Contains-get_or c.args.found.now c.loop-class.class-index 0 c.loop-class-test.true) in
    omega (arith, w, c.usage.ensures.rows, ap length c.usage.ensures.same)

pub index-requires : goal.index-requires
index-requires c =
    let w = c.requires.within (get_or c.args.found.now c.loop-class.class-index 0) (Contains-get_or c.args.found.now c.loop-class.class-index 0 c.loop-class-test.true) in
    omega (arith, w, c.args.indexed.named.placed)

pub loop-class-preserved : goal.loop-class-preserved
loop-class-preserved c =
    let union = c.args.indexed.union.now in
    let found = c.args.found.now in
    let places = c.args.indexed.order.now.places.items in
    let i = c.loop-class.class-index in
    let kind = λ (k : ℕ). has_bit (get_or (bits_of union.usage) k no_bits) c.on_bit-held.result ≡ true in
    let low : (k : ℕ) → k < length found → get_or found k 0 < length union.classes = λ k l. c.requires.within (get_or found k 0) (Contains-get_or found k 0 l) in
    let same : c.has.result ≡ has_bit (get_or (bits_of union.usage) (get_or found i 0) no_bits) c.on_bit-held.result =
    c.has.ensures ∙ ap (λ rows. has_bit (get_or (bits_of rows) (get_or found i 0) no_bits) c.on_bit-held.result) c.usage.ensures.same in
    elim c.if-has.branch [
      | then-has+in_ok-push w ↦
          let value : c.if-has.places.items ≡ c.loop-class.places.items ++ place_of_class places (get_or found i 0) ∷ [] =
          ap (λ (v : Vec _ _). v.items) w.places-is ∙ w.in_ok-push.ensures.items ∙ ap (λ p. c.loop-class.places.items ++ p ∷ [])
          (w.index.ensures ∙ get_or_default places (get_or found i 0) w.index.result.now 0 (let l = low i c.loop-class-test.true in omega (arith, l, c.args.indexed.named.placed))) in
          subst (AreStaying found places kind (i + 1)) (sym value)
          (AreStaying-one_more found places kind i c.loop-class.places.items c.loop-class.invariant c.requires.once c.loop-class-test.true
          (λ j k at_j at_k same. sym (c.args.indexed.named.every (get_or found j 0) (low j at_j)).1 ∙ ap (class_at c.args.indexed.order.now.numbers.items) same
          ∙ (c.args.indexed.named.every (get_or found k 0) (low k at_k)).1)
          (sym same ∙ w.if-has.true))
      | else-has w ↦
          subst (AreStaying found places kind (i + 1)) (sym (ap (λ (v : Vec _ _). v.items) w.places-is))
          (AreStaying-other found places kind i c.loop-class.places.items c.loop-class.invariant (λ has. true≢false (sym (same ∙ has) ∙ w.if-has.false)))
    ]

pub returns-clause-exact : goal.returns-clause-exact
returns-clause-exact c = record { each = forth; all = back }
  where
    found : List ℕ
    found = c.args.found.now

    numbers : List ℕ
    numbers = c.args.indexed.order.now.numbers.items

    bits_at : ℕ → Type 0
    bits_at k = HasBitAt (bits_of c.args.indexed.union.now.usage) k (On c.args.state)

    forth : (p : ℕ) → Contains c.sort_unstable.new.self.items p → (p < length numbers) × (Contains found (class_at numbers p) × bits_at (class_at numbers p))
    forth p h =
        let e = c.loop-class.invariant.each p (Contains-permutation c.sort_unstable.new.self.items c.loop-class.places.items p
        (IsPermutation-sym c.loop-class.places.items c.sort_unstable.new.self.items c.sort_unstable.ensures.permutation) h) in
        let l = e.1.0 in
        let within : e.0 < length found = omega (arith, l, c.loop-class.auto.class-index-end) in
        let there = Contains-get_or found e.0 0 within in
        let at = c.args.indexed.named.every (get_or found e.0 0) (c.requires.within (get_or found e.0 0) there) in
        let bit : bits_at (get_or found e.0 0) = subst (λ b. has_bit (get_or (bits_of c.args.indexed.union.now.usage) (get_or found e.0 0) no_bits) b ≡ true) c.on_bit-held.ensures e.1.1.0 in
        subst (λ q. (q < length numbers) × (Contains found (class_at numbers q) × bits_at (class_at numbers q))) e.1.1.1
        (at.0, (subst (Contains found) (sym at.1) there, subst bits_at (sym at.1) bit))

    back : (k : ℕ) → Contains found k → bits_at k → (p : ℕ) × (Contains c.sort_unstable.new.self.items p × (class_at numbers p ≡ k))
    back k there bit =
        let l = there.1 in
        let at : get_or found there.0 0 ≡ k = get_or_default found there.0 0 k l ∙ there.2 in
        let has = subst (λ b. has_bit (get_or (bits_of c.args.indexed.union.now.usage) k no_bits) b ≡ true) (sym c.on_bit-held.ensures) bit in
        let here = c.loop-class.invariant.all there.0 (omega (arith, l, c.loop-class-test.false))
        (subst (λ z. has_bit (get_or (bits_of c.args.indexed.union.now.usage) z no_bits) c.on_bit-held.result ≡ true) (sym at) has) in
        let p = place_of_class c.args.indexed.order.now.places.items k in (
          p,
          (
            Contains-permutation c.loop-class.places.items c.sort_unstable.new.self.items p c.sort_unstable.ensures.permutation
                (subst (Contains c.loop-class.places.items) (ap (place_of_class c.args.indexed.order.now.places.items) at) here),
            (c.args.indexed.named.every k (c.requires.within k there)).1,
          ),
        )

pub returns-clause-rising : goal.returns-clause-rising
returns-clause-rising c = increasing_from_sort c.loop-class.places.items c.sort_unstable.new.self.items c.loop-class.invariant.once c.sort_unstable.ensures.permutation
    c.sort_unstable.ensures.sorted
