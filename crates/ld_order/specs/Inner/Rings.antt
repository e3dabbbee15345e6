-- A list of nodes, kept as a ring with rising labels. Node 0 is the head, whose label is 0. No public contract cites
-- this file.
use Rattle.std.specs.Prelude.{◌≡◌, ◌≢◌, ◌↔◌, ℕ, zero, suc, ◌+◌, ◌-◌, ◌*◌, ◌^◌, ◌<◌, ◌≤◌, Bool, if◌then◌else◌, List, length, slice_index, ltb}

-- of the first n numbers so many pass the test
abbrev pub count : (ℕ → Bool) → ℕ → ℕ
count p zero = 0
count p (suc n) = count p n + (if p n then 1 else 0)

-- the rank of a node among n: how many have a lesser label
abbrev pub rank : (n : ℕ) → (label : ℕ → ℕ) → ℕ → ℕ
rank n label c = count (λ d. ltb (label d) (label c)) n

-- the node is one of n, and not the one that is out
abbrev pub IsNode : (n out c : ℕ) → Type 0
IsNode n out c = (c < n) × (c ≢ out)

-- the nodes but the one that is out form a ring, in the order of their labels, from the head on
pub record AreLinked (n : ℕ) (label next prev : ℕ → ℕ) (out : ℕ) : Type 0 where
  pub some : 0 < n
  pub head : label 0 ≡ 0
  pub kept : out ≢ 0
  pub once : (c d : ℕ) → IsNode n out c → IsNode n out d → label c ≡ label d → c ≡ d
  pub next_in : (c : ℕ) → IsNode n out c → IsNode n out (next c)
  pub prev_in : (c : ℕ) → IsNode n out c → IsNode n out (prev c)
  pub up : (c : ℕ) → IsNode n out c → next c ≢ 0 → label c < label (next c)
  pub none : (c d : ℕ) → IsNode n out c → IsNode n out d → label c < label d
      → (next c ≢ 0) × (label (next c) ≤ label d)
  pub back : (c : ℕ) → IsNode n out c → prev (next c) ≡ c
  pub forth : (c : ℕ) → IsNode n out c → next (prev c) ≡ c

-- the same over lists, with no node out
pub record IsRing (labels next prev : List ℕ) : Type 0 where
  pub next_len : length next ≡ length labels
  pub prev_len : length prev ≡ length labels
  pub links : AreLinked (length labels) (slice_index labels) (slice_index next) (slice_index prev) (length labels)

-- one node went directly behind another one; the order of the others is as before
pub record IsBehind (n : ℕ) (old new : ℕ → ℕ) (node at : ℕ) : Type 0 where
  pub others : (c d : ℕ) → c < n → d < n → c ≢ node → d ≢ node → (new c < new d) ↔ (old c < old d)
  pub below : (c : ℕ) → c < n → c ≢ node → old c ≤ old at → new c < new node
  pub above : (c : ℕ) → c < n → c ≢ node → old at < old c → new node < new c

-- the order is as before
abbrev pub IsSameOrder : (n : ℕ) → (old new : ℕ → ℕ) → Type 0
IsSameOrder n old new = (c d : ℕ) → c < n → d < n → (new c < new d) ↔ (old c < old d)

-- the node is one of the first i of these
abbrev pub IsOneOf : List ℕ → (i c : ℕ) → Type 0
IsOneOf found i c = (k : ℕ) × ((k < i) × (slice_index found k ≡ c))

-- some nodes went together, in their order, directly behind another one; the others stay
pub record IsShifted (n : ℕ) (old new : ℕ → ℕ) (moved : ℕ → Type 0) (at : ℕ) : Type 0 where
  pub stay : (c d : ℕ) → c < n → d < n → (¬ moved c) → (¬ moved d) → (new c < new d) ↔ (old c < old d)
  pub among : (c d : ℕ) → moved c → moved d → (new c < new d) ↔ (old c < old d)
  pub below : (c d : ℕ) → moved c → d < n → (¬ moved d) → (new d < new c) ↔ (old d ≤ old at)
  pub above : (c d : ℕ) → moved c → d < n → (¬ moved d) → (new c < new d) ↔ (old at < old d)

-- so many nodes behind another one have labels in even steps from that one's, with room for so many more before them;
-- all else is as before
pub record IsSpread (n : ℕ) (old new : ℕ → ℕ) (at left count step : ℕ) : Type 0 where
  pub below : (c : ℕ) → c < n → rank n old c ≤ rank n old at → new c ≡ old c
  pub inside : (c : ℕ) → c < n → rank n old at < rank n old c → rank n old c ≤ rank n old at + count
      → new c ≡ old at + (left + (rank n old c - rank n old at)) * step
  pub above : (c : ℕ) → c < n → rank n old at + count < rank n old c → new c ≡ old c

-- so many nodes behind another one have room for labels in even steps from that one's, with room for so many more
-- before them
pub record IsSparse (n : ℕ) (label : ℕ → ℕ) (at left count step : ℕ) : Type 0 where
  pub nodes : rank n label at + count < n
  pub some : 0 < step
  pub fits : label at + (left + count + 1) * step < 2 ^ 64
  pub stretch : (c : ℕ) → c < n → rank n label at + count < rank n label c
      → label at + (left + count + 1) * step ≤ label c
