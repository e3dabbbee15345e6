-- What a placing writes is a line.
use Rattle.std.proofs.Common.{◌≡◌, ◌≢◌, ℕ, ◌<◌, List, arith, get_or, set, length, sym, ap, ◌∙◌, subst, get_or-set_other, get_or-set_same}
use Rattle.std.proofs.lemmas.List.{length-set}
use Rattle.ld_order.specs.Inner.Rings.{IsNode, IsRing, AreLinked}
use Rattle.ld_order.proofs.RingLemmas.{unlinked, linked}

module _ (labels next prev : List ℕ) (r : IsRing labels next prev) (x : ℕ) (s : 0 < x) (l : x < length labels)
    (at : ℕ) (here : at < length labels) (other : at ≢ x) (moves : get_or next at 0 ≢ x) (label : ℕ)
    (low : get_or labels at 0 < label) (high : get_or next at 0 ≢ 0 → label < get_or labels (get_or next at 0) 0)
    (next1 prev1 next2 prev2 : List ℕ)
    (a : next1 ≡ set next (get_or prev x 0) (get_or next x 0)) (b : prev1 ≡ set prev (get_or next x 0) (get_or prev x 0))
    (c : next2 ≡ set (set next1 at x) x (get_or next1 at 0)) (d : prev2 ≡ set (set prev1 (get_or next1 at 0) x) x at) where
  out : (k : ℕ) → k < length labels → IsNode (length labels) (length labels) k
  out k h = (h, λ e. omega (arith, h, e))

  x_next_len : get_or next x 0 < length prev
  x_next_len = let k = r.links.next_in x (out x l) in let q = r.prev_len in omega (arith, k.0, q)

  x_prev_len : get_or prev x 0 < length next
  x_prev_len = let k = r.links.prev_in x (out x l) in let q = r.next_len in omega (arith, k.0, q)

  one : AreLinked (length labels) (λ k. get_or labels k 0) (λ k. get_or next1 k 0) (λ k. get_or prev1 k 0) x
  one = unlinked (length labels) (λ k. get_or labels k 0) (λ k. get_or next k 0) (λ k. get_or prev k 0) r.links x l s
      (λ k. get_or next1 k 0) (λ k. get_or prev1 k 0)
      (rw a (get_or-set_same next (get_or prev x 0) (get_or next x 0) 0 x_prev_len))
      (λ k e. rw a (get_or-set_other next (get_or prev x 0) k (get_or next x 0) 0 e))
      (rw b (get_or-set_same prev (get_or next x 0) (get_or prev x 0) 0 x_next_len))
      (λ k e. rw b (get_or-set_other prev (get_or next x 0) k (get_or prev x 0) 0 e))

  len1 : length next1 ≡ length labels
  len1 = ap length a ∙ length-set next (get_or prev x 0) (get_or next x 0) ∙ r.next_len

  len2 : length prev1 ≡ length labels
  len2 = ap length b ∙ length-set prev (get_or next x 0) (get_or prev x 0) ∙ r.prev_len

  same : get_or next1 at 0 ≡ get_or next at 0
  same = rw a (get_or-set_other next (get_or prev x 0) at (get_or next x 0) 0
      (λ e. moves (ap (λ k. get_or next k 0) e ∙ r.links.forth x (out x l))))

  after : IsNode (length labels) x (get_or next1 at 0)
  after = one.next_in at (here, other)

  two : AreLinked (length labels) (λ k. get_or (set labels x label) k 0) (λ k. get_or next2 k 0) (λ k. get_or prev2 k 0) (length labels)
  two = linked (length labels) (λ k. get_or labels k 0) (λ k. get_or next1 k 0) (λ k. get_or prev1 k 0) x one l at
      (here, other) (λ k. get_or (set labels x label) k 0) (λ k. get_or next2 k 0) (λ k. get_or prev2 k 0)
      (rw c (get_or-set_other (set next1 at x) x at (get_or next1 at 0) 0 other
      ∙ get_or-set_same next1 at x 0 (omega (arith, len1, here))))
      (rw c (get_or-set_same (set next1 at x) x (get_or next1 at 0) 0
      (let q = length-set next1 at x in omega (arith, len1, l, q))))
      (λ k e f. rw c (get_or-set_other (set next1 at x) x k (get_or next1 at 0) 0 f ∙ get_or-set_other next1 at k x 0 e))
      (rw d (get_or-set_same (set prev1 (get_or next1 at 0) x) x at 0
      (let q = length-set prev1 (get_or next1 at 0) x in omega (arith, len2, l, q))))
      (rw d (get_or-set_other (set prev1 (get_or next1 at 0) x) x (get_or next1 at 0) at 0 after.1
      ∙ get_or-set_same prev1 (get_or next1 at 0) x 0 (let q = after.0 in omega (arith, len2, q))))
      (λ k e f. rw d (get_or-set_other (set prev1 (get_or next1 at 0) x) x k at 0 f ∙ get_or-set_other prev1 (get_or next1 at 0) k x 0 e))
      (λ k e. get_or-set_other labels x k label 0 e)
      (let q = get_or-set_same labels x label 0 l in omega (arith, q, low))
      (λ z. let q = get_or-set_same labels x label 0 l in
      let m = high (λ w. z (same ∙ w)) in
      let v = ap (λ k. get_or labels k 0) same in omega (arith, q, m, v))

  pub placed : IsRing (set labels x label) next2 prev2
  placed =
      let n : length (set labels x label) ≡ length labels = length-set labels x label in
      record {
        next_len = ap length c ∙ length-set (set next1 at x) x (get_or next1 at 0) ∙ length-set next1 at x ∙ len1 ∙ sym n;
        prev_len = ap length d ∙ length-set (set prev1 (get_or next1 at 0) x) x at ∙ length-set prev1 (get_or next1 at 0) x ∙ len2 ∙ sym n;
        links = subst (λ m. AreLinked m (λ k. get_or (set labels x label) k 0) (λ k. get_or next2 k 0) (λ k. get_or prev2 k 0) m) (sym n) two;
      }
