-- A stretch of nodes that has room.
use Rattle.std.proofs.Common.{◌≡◌, inl, inr, ℕ, ◌+◌, ◌-◌, ◌*◌, ◌/◌, ◌^◌, ◌<◌, ◌≤◌, arith, ap}
use Rattle.std.proofs.lemmas.Bool.{cases_lt}
use Rattle.std.proofs.Math.Nat.{mul_comm, mul-le-mul_left, mul-le-mul_right, div-mul-le_self, lt-div-mul-add}
use Rattle.ld_order.specs.Inner.Rings.{IsSparse, IsSpread, rank}
use Rattle.ld_order.proofs.RankLemmas.{rank-less}

module _ (n : ℕ) (label : ℕ → ℕ) (at left count node : ℕ) (l : node < n)
    (nodes : rank n label at + count < n) (here : rank n label node ≡ rank n label at + count + 1)
    (fits : label node < 2 ^ 64) (less : label at < label node)
    (wide : (count + left + 1) * (count + left + 1) < label node - label at) where
  sum : label at + (left + count + 1) * ((label node - label at) / (count + left + 1)) ≤ label node
  sum =
      let m = div-mul-le_self (label node - label at) (count + left + 1) in
      let e : left + count + 1 ≡ count + left + 1 = omega arith in
      let f = ap (λ z. z * ((label node - label at) / (count + left + 1))) e in
      let q = mul_comm (count + left + 1) ((label node - label at) / (count + left + 1)) in omega (arith, m, q, f, less)

  some : 0 < (label node - label at) / (count + left + 1)
  some =
      let w = lt-div-mul-add {a = label node - label at} {b = count + left + 1} (omega arith) in
      let m : (label node - label at) / (count + left + 1) ≤ 0
      → (label node - label at) / (count + left + 1) * (count + left + 1) ≤ 0 * (count + left + 1) = λ a. mul-le-mul_right (count + left + 1) a in
      let f : (count + left + 1) * 1 ≤ (count + left + 1) * (count + left + 1) = mul-le-mul_left (count + left + 1) (omega arith) in
      grind (arith, w, m, f, wide)

  pub sparse_here : IsSparse n label at left count ((label node - label at) / (count + left + 1))
  sparse_here = record {
    nodes = nodes;
    some = some;
    fits = let a = sum in omega (arith, a, fits);
    stretch = λ c h k. let m = sum in grind (arith, rank-less n label c node h, here, k, m);
  }

module _ (n : ℕ) (old new : ℕ → ℕ) (at left count step : ℕ) (h : at < n) (s : IsSparse n old at left count step)
    (t : IsSpread n old new at left count step) where
  -- after the spread there is room behind the node
  pub room_here : (after : ℕ) → after < n → rank n old after ≡ rank n old at + 1 → new at + left < new after
  room_here after k e = elim (cases_lt 0 count) [
    | inl a ↦
        let v = t.inside after k (omega (arith, e)) (omega (arith, e, a)) in
        let u = t.below at h (omega arith) in
        let d : left + (rank n old after - rank n old at) ≡ left + 1 = omega (arith, e) in
        let m = ap (λ z. z * step) d in
        let w : (left + 1) * 1 ≤ (left + 1) * step = mul-le-mul_left (left + 1) s.some in
        omega (arith, v, u, m, w)
    | inr a ↦
        let v = t.above after k (omega (arith, e, a)) in
        let u = t.below at h (omega arith) in
        let q = s.stretch after k (omega (arith, e, a)) in
        let m : (left + 1) * step ≤ (left + count + 1) * step = mul-le-mul_right step (omega arith) in
        let w : (left + 1) * 1 ≤ (left + 1) * step = mul-le-mul_left (left + 1) s.some in
        omega (arith, v, u, q, m, w)
  ]

  pub room_last : new at + left + 1 < 2 ^ 64
  room_last =
      let u = t.below at h (omega arith) in
      let m : (left + 1) * step ≤ (left + count + 1) * step = mul-le-mul_right step (omega arith) in
      let w : (left + 1) * 1 ≤ (left + 1) * step = mul-le-mul_left (left + 1) s.some in
      let f = s.fits in
      omega (arith, u, m, w, f)
