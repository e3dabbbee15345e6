-- What was found moves, and the order is mended.
use Rattle.std.proofs.Common.{◌≡◌, ◌≢◌, ◌⊎◌, ◌↔◌, inl, inr, ℕ, ◌+◌, ◌<◌, ◌≤◌, List, length, get_or, Contains, arith, subst}
use Rattle.std.proofs.lemmas.Bool.{cases_lt}
use Rattle.std.proofs.lemmas.List.Elements.{Contains-get_or}
use Rattle.ld_order.specs.Orders.{AreInOrder, AreRanks, HaveMoved}
use Rattle.ld_graph.specs.declared.affected.Direction.{Direction}
use Rattle.ld_graph.specs.declared.affected.Direction.TheVariants.{Backward, Forward}
use Rattle.ld_graph.specs.Lists.{IsNear, Sides}
use Rattle.ld_graph.specs.Inner.Affected.{HasEnded, IsFound, IsIn}
use Rattle.std.proofs.Common.{Bool, true, false, nat_eq}
use Rattle.std.specs.Bool.{OnTrue}
use Rattle.std.specs.List.{IsDistinct}
use Rattle.ld_graph.specs.Inner.Repairs.{IsMended, IsRepaired}
use Rattle.ld_graph.proofs.ApartLemmas.{apart_backward, apart_forward, closed_backward, closed_forward, few_apart}
use Rattle.ld_graph.proofs.MarkLemmas.{has_or_not}

module _ (moved : ℕ → Type 0) (limit : ℕ) (old new : List ℕ) (h : HaveMoved moved limit old new)
    (can : (c : ℕ) → moved c ⊎ (¬ moved c)) (step : ℕ → ℕ → Type 0)
    (ends : (x y : ℕ) → step x y → (x < length old) × (y < length old))
    (rises : (x y : ℕ) → step x y → get_or old x 0 < get_or old y 0) where
  -- what moved down, with all that leads to it from behind the limit
  rises_backward : ((k : ℕ) → moved k → limit ≤ get_or old k 0)
      → ((x y : ℕ) → step x y → moved y → limit ≤ get_or old x 0 → moved x)
      → (x y : ℕ) → step x y → get_or new x 0 < get_or new y 0
  rises_backward up closed x y p = by (can x) (can y) (cases_lt (get_or old x 0) limit)
    where
      by : moved x ⊎ (¬ moved x) → moved y ⊎ (¬ moved y) → (get_or old x 0 < limit) ⊎ (limit ≤ get_or old x 0)
          → get_or new x 0 < get_or new y 0
      by (inl a) (inl b) _ = (h.among x y a b).1 (rises x y p)
      by (inl a) (inr b) _ = (h.above x y a (ends x y p).1 b).1 (let q = rises x y p in let r = up x a in omega (arith, q, r))
      by (inr a) (inl b) (inl g) = (h.below y x b (ends x y p).0 a).1 g
      by (inr a) (inl b) (inr g) = absurd (a (closed x y p b g))
      by (inr a) (inr b) _ = (h.stay x y (ends x y p).0 (ends x y p).1 a b).1 (rises x y p)

  -- and what moved up, with all that it leads to before the limit
  rises_forward : ((k : ℕ) → moved k → get_or old k 0 < limit)
      → ((x y : ℕ) → step x y → moved x → get_or old y 0 < limit → moved y)
      → (x y : ℕ) → step x y → get_or new x 0 < get_or new y 0
  rises_forward down closed x y p = by (can x) (can y) (cases_lt (get_or old y 0) limit)
    where
      by : moved x ⊎ (¬ moved x) → moved y ⊎ (¬ moved y) → (get_or old y 0 < limit) ⊎ (limit ≤ get_or old y 0)
          → get_or new x 0 < get_or new y 0
      by (inl a) (inl b) _ = (h.among x y a b).1 (rises x y p)
      by (inl a) (inr b) (inl g) = absurd (b (closed x y p a g))
      by (inl a) (inr b) (inr g) = (h.above x y a (ends x y p).1 b).1 g
      by (inr a) (inl b) _ = (h.below y x b (ends x y p).0 a).1 (let q = rises x y p in let r = down y b in omega (arith, q, r))
      by (inr a) (inr b) _ = (h.stay x y (ends x y p).0 (ends x y p).1 a b).1 (rises x y p)

module _ (step near : ℕ → ℕ → Type 0) (old new : List ℕ) (a b : ℕ) (found : List ℕ)
    (ends : (x y : ℕ) → step x y → (x < length old) × (y < length old))
    (rises : (x y : ℕ) → step x y → get_or old x 0 < get_or old y 0)
    (la : a < length old) (lb : b < length old)
    (f : IsFound near (λ x. get_or old x 0) (length old) (get_or old b 0) (get_or old a 0) found (length found)) where
  first_found : Contains found (get_or found 0 0)
  first_found = Contains-get_or found 0 0 f.some

  -- a class outside the range was not found
  not_found : (c : ℕ) → (get_or old c 0 < get_or old b 0) ⊎ (get_or old a 0 < get_or old c 0) → ¬ Contains found c
  not_found c (inl o) m = let w = (f.within c m).1.0 in omega (arith, w, o)
  not_found c (inr o) m = let w = (f.within c m).1.1 in omega (arith, w, o)

  -- and those that were found stand to it as any place of the range
  stands : (limit : ℕ) → get_or old b 0 ≤ limit → limit ≤ get_or old a 0 + 1
      → (c : ℕ) → (get_or old c 0 < get_or old b 0) ⊎ (get_or old a 0 < get_or old c 0)
      → (k : ℕ) → Contains found k → (get_or old k 0 < get_or old c 0) ↔ (limit ≤ get_or old c 0)
  stands limit p q c (inl o) k m =
      let w = (f.within k m).1.0 in (λ z. absurd (omega (arith, z, o, w)), λ z. absurd (omega (arith, z, o, p)))
  stands limit p q c (inr o) k m =
      let w = (f.within k m).1.1 in (λ z. omega (arith, o, q), λ z. omega (arith, o, w))

  -- each class is up to a or from b on
  abbrev IsBeside : ℕ → Type 0
  IsBeside c = (get_or new c 0 ≤ get_or new a 0) ⊎ (get_or new b 0 ≤ get_or new c 0)

  abbrev AreBeside : ℕ → ℕ → Type 0
  AreBeside c d = ((get_or new c 0 ≤ get_or new a 0) × (get_or new d 0 ≤ get_or new a 0))
      ⊎ ((get_or new b 0 ≤ get_or new c 0) × (get_or new b 0 ≤ get_or new d 0))

  module _ (h : HaveMoved (Contains found) (get_or old b 0) old new) (has_a : Contains found a) (free : ¬ Contains found b) where
    beside_backward : (c : ℕ) → c < length old → IsBeside c
    beside_backward c lc = by (cases_lt (get_or new a 0) (get_or new c 0)) (cases_lt (get_or new c 0) (get_or new b 0)) (has_or_not found c)
      where
        by : (get_or new a 0 < get_or new c 0) ⊎ (get_or new c 0 ≤ get_or new a 0)
            → (get_or new c 0 < get_or new b 0) ⊎ (get_or new b 0 ≤ get_or new c 0)
            → Contains found c ⊎ (¬ Contains found c) → IsBeside c
        by (inr p) _ _ = inl p
        by (inl _) (inr q) _ = inr q
        by (inl p) (inl q) (inl m) =
            let w = (f.within c m).1.1 in let r = (h.among a c has_a m).0 p in absurd (omega (arith, w, r))
        by (inl p) (inl q) (inr m) =
            let r = (h.above a c has_a lc m).0 p in let s = (h.stay c b lc lb m free).0 q in absurd (omega (arith, r, s))

    alike_backward : (c d : ℕ) → c < length old → d < length old → AreBeside c d
        → get_or old c 0 < get_or old d 0 → get_or new c 0 < get_or new d 0
    alike_backward c d lc ld beside less = by (has_or_not found c) (has_or_not found d) beside
      where
        by : Contains found c ⊎ (¬ Contains found c) → Contains found d ⊎ (¬ Contains found d) → AreBeside c d
            → get_or new c 0 < get_or new d 0
        by (inl m) (inl n) _ = (h.among c d m n).1 less
        by (inr m) (inr n) _ = (h.stay c d lc ld m n).1 less
        by (inl m) (inr n) _ = (h.above c d m ld n).1 (let w = (f.within c m).1.0 in omega (arith, w, less))
        by (inr m) (inl n) (inl p) = let q = p.0 in (h.below d c n lc m).1 (grind (arith, (h.above a c has_a lc m).1, q))
        by (inr m) (inl n) (inr p) = let r = (h.above d b n lb free).1 (omega arith) in absurd (omega (arith, r, p.1))

  module _ (h : HaveMoved (Contains found) (get_or old a 0 + 1) old new) (has_b : Contains found b) (free : ¬ Contains found a) where
    beside_forward : (c : ℕ) → c < length old → IsBeside c
    beside_forward c lc = by (cases_lt (get_or new a 0) (get_or new c 0)) (cases_lt (get_or new c 0) (get_or new b 0)) (has_or_not found c)
      where
        by : (get_or new a 0 < get_or new c 0) ⊎ (get_or new c 0 ≤ get_or new a 0)
            → (get_or new c 0 < get_or new b 0) ⊎ (get_or new b 0 ≤ get_or new c 0)
            → Contains found c ⊎ (¬ Contains found c) → IsBeside c
        by (inr p) _ _ = inl p
        by (inl _) (inr q) _ = inr q
        by (inl p) (inl q) (inl m) =
            let w = (f.within c m).1.0 in let r = (h.among c b m has_b).0 q in absurd (omega (arith, w, r))
        by (inl p) (inl q) (inr m) =
            let r = (h.below b c has_b lc m).0 q in let s = (h.stay a c la lc free m).0 p in absurd (omega (arith, r, s))

    alike_forward : (c d : ℕ) → c < length old → d < length old → AreBeside c d
        → get_or old c 0 < get_or old d 0 → get_or new c 0 < get_or new d 0
    alike_forward c d lc ld beside less = by (has_or_not found c) (has_or_not found d) beside
      where
        by : Contains found c ⊎ (¬ Contains found c) → Contains found d ⊎ (¬ Contains found d) → AreBeside c d
            → get_or new c 0 < get_or new d 0
        by (inl m) (inl n) _ = (h.among c d m n).1 less
        by (inr m) (inr n) _ = (h.stay c d lc ld m n).1 less
        by (inr m) (inl n) _ = (h.below d c n lc m).1 (let w = (f.within d n).1.1 in omega (arith, w, less))
        by (inl m) (inr n) (inl p) = let r = (h.below c a m la free).1 (omega arith) in absurd (omega (arith, r, p.0))
        by (inl m) (inr n) (inr p) = let q = p.1 in (h.above c d m ld n).1 (grind (arith, (h.below b d has_b ld n).1, q))

  pub mended_backward : ((x y : ℕ) → step x y → near y x) → get_or found 0 0 ≡ a → ¬ Contains found b
      → HaveMoved (Contains found) (get_or old b 0) old new → IsMended step a b old new
  mended_backward turned first free h =
      let has_a = subst (Contains found) first first_found in
      let order = (f.within a has_a).1.0 in
      record {
        len = h.len;
        rises = rises_backward (Contains found) (get_or old b 0) old new h (has_or_not found) step ends rises
            (λ k m. (f.within k m).1.0)
            (closed_backward step near (λ x. get_or old x 0) rises (length old) (get_or old b 0) (get_or old a 0) found f turned);
        turned = (h.above a b has_a lb free).1 (omega arith);
        outside = λ c l o. h.keeps c l (not_found c o) (stands (get_or old b 0) (omega arith) (omega (arith, order)) c o);
        beside = beside_backward h has_a free;
        alike = alike_backward h has_a free;
      }

  pub mended_forward : ((x y : ℕ) → step x y → near x y) → get_or found 0 0 ≡ b → ¬ Contains found a
      → HaveMoved (Contains found) (get_or old a 0 + 1) old new → IsMended step a b old new
  mended_forward same first free h =
      let has_b = subst (Contains found) first first_found in
      let order = (f.within b has_b).1.1 in
      record {
        len = h.len;
        rises = rises_forward (Contains found) (get_or old a 0 + 1) old new h (has_or_not found) step ends rises
            (λ k m. let w = (f.within k m).1.1 in omega (arith, w))
            (λ x y p m u. closed_forward step near (λ x. get_or old x 0) rises (length old) (get_or old b 0) (get_or old a 0) found f same x y p m (omega (arith, u)));
        turned = (h.below b a has_b la free).1 (omega arith);
        outside = λ c l o. h.keeps c l (not_found c o) (stands (get_or old a 0 + 1) (omega (arith, order)) (omega arith) c o);
        beside = beside_forward h has_b free;
        alike = alike_forward h has_b free;
      }

  -- a class that was not found has another rank than those that were
  pub differs : AreRanks old → (y : ℕ) → y < length old → ¬ Contains found y → (x : ℕ) → Contains found x
      → get_or old x 0 ≢ get_or old y 0
  differs r y k free x m e = free (subst (Contains found) (r.once x y (f.within x m).0 k e) m)

-- what was found by labels is found by ranks
module _ (ranks labels : List ℕ) (len : length labels ≡ length ranks) (o : AreInOrder ranks labels)
    (a b : ℕ) (la : a < length ranks) (lb : b < length ranks) where
  not_less : (c d : ℕ) → c < length ranks → d < length ranks → get_or labels c 0 ≤ get_or labels d 0
      → get_or ranks c 0 ≤ get_or ranks d 0
  not_less c d h k l = grind (arith, (o d c k h).1, l)

  not_below : (c d : ℕ) → c < length ranks → d < length ranks → get_or ranks c 0 ≤ get_or ranks d 0
      → get_or labels c 0 ≤ get_or labels d 0
  not_below c d h k l = grind (arith, (o d c k h).0, l)

  pub found_ranked : (near : ℕ → ℕ → Type 0) → ((x y : ℕ) → near x y → y < length ranks) → (found : List ℕ) (done : ℕ)
      → IsFound near (λ x. get_or labels x 0) (length labels) (get_or labels b 0) (get_or labels a 0) found done
      → IsFound near (λ x. get_or ranks x 0) (length ranks) (get_or ranks b 0) (get_or ranks a 0) found done
  found_ranked near ends found done f = record {
    some = f.some;
    upto = f.upto;
    within = λ k m.
        let w = f.within k m in let l : k < length ranks = omega (arith, w.0, len) in
        (l, (not_less b k lb l w.1.0, not_less k a l la w.1.1));
    reached = f.reached;
    closed = λ i y l n e. f.closed i y l n
        (not_below b y lb (ends (get_or found i 0) y n) e.0, not_below y a (ends (get_or found i 0) y n) la e.1);
  }

  pub ended_ranked : (sides : Sides) → ((x y : ℕ) → IsNear sides.after.lists x y → y < length ranks)
      → ((x y : ℕ) → IsNear sides.before.lists x y → y < length ranks) → (ended : Direction) (backward forward : List ℕ)
      → HasEnded ended sides (λ x. get_or labels x 0) (length labels) (get_or labels b 0) (get_or labels a 0) backward forward
      → HasEnded ended sides (λ x. get_or ranks x 0) (length ranks) (get_or ranks b 0) (get_or ranks a 0) backward forward
  ended_ranked sides after before Backward backward forward h = (
    found_ranked (IsNear sides.before.lists) before backward (length backward) h.0,
    found_ranked (IsNear sides.after.lists) after forward 0 h.1,
  )
  ended_ranked sides after before Forward backward forward h = (
    found_ranked (IsNear sides.after.lists) after forward (length forward) h.0,
    found_ranked (IsNear sides.before.lists) before backward 0 h.1,
  )

-- the repair read no more lists than there are ranks in the range
module _ (sides : Sides) (turned : (x y : ℕ) → IsNear sides.after.lists x y ↔ IsNear sides.before.lists y x)
    (old new : List ℕ) (ranks : AreRanks old)
    (rises : (x y : ℕ) → IsNear sides.after.lists x y → get_or old x 0 < get_or old y 0)
    (a b : ℕ) (against : get_or old b 0 < get_or old a 0) (backward forward : List ℕ)
    (begin : get_or backward 0 0 ≡ a) (start : get_or forward 0 0 ≡ b)
    (d : IsDistinct nat_eq backward) (e : IsDistinct nat_eq forward)
    (count : ℕ) (some : 0 < count) (read : count ≤ length backward + length forward) where
  abbrev Found : List (List ℕ) → List ℕ → ℕ → Type 0
  Found lists found done = IsFound (IsNear lists) (λ x. get_or old x 0) (length old) (get_or old b 0) (get_or old a 0) found done

  few : ((k : ℕ) → Contains backward k → (k < length old) × IsIn (get_or old b 0) (get_or old a 0) (get_or old k 0))
      → ((k : ℕ) → Contains forward k → (k < length old) × IsIn (get_or old b 0) (get_or old a 0) (get_or old k 0))
      → ((k : ℕ) → Contains backward k → ¬ Contains forward k) → count + get_or old b 0 ≤ get_or old a 0 + 1
  few p q apart =
      let f = few_apart (λ x. get_or old x 0) (length old) (get_or old b 0) (get_or old a 0) (omega (arith, against)) ranks.once
      backward forward d e p q apart in omega (arith, f, read)

  pub repaired_backward : Found sides.before.lists backward (length backward) → Found sides.after.lists forward 0
      → (ended : Bool) → OnTrue ended (IsMended (IsNear sides.after.lists) a b old new) → OnTrue ended (¬ Contains backward b)
      → OnTrue ended (IsRepaired (IsNear sides.after.lists) a b old new count)
  repaired_backward h g false m free = tt
  repaired_backward h g true m free = record {
    mended = m;
    some = some;
    few = few h.within g.within (apart_backward (IsNear sides.after.lists) (IsNear sides.before.lists) (λ x y n. (turned x y).0 n)
        (λ x y n. (turned y x).1 n) (λ x. get_or old x 0) rises (length old) a b backward forward begin start h g free);
  }

  pub repaired_forward : Found sides.after.lists forward (length forward) → Found sides.before.lists backward 0
      → (ended : Bool) → OnTrue ended (IsMended (IsNear sides.after.lists) a b old new) → OnTrue ended (¬ Contains forward a)
      → OnTrue ended (IsRepaired (IsNear sides.after.lists) a b old new count)
  repaired_forward h g false m free = tt
  repaired_forward h g true m free = record {
    mended = m;
    some = some;
    few = few g.within h.within (apart_forward (IsNear sides.after.lists) (IsNear sides.before.lists) (λ x y n. (turned x y).0 n)
        (λ x y n. (turned y x).1 n) (λ x. get_or old x 0) rises (length old) a b backward forward begin start h g free);
  }
