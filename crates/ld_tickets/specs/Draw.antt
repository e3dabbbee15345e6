-- *Draw machine*: the core of the tickets, and what its seats drew.
use Rattle.std.specs.Prelude.{◌≡◌, ◌++◌, ◌∷◌, [], ℕ, Bool, true, List, Option, Some, None, if◌then◌else◌, nat_eq, nat_lt, count_by}
use Rattle.std.specs.List.{sum_by}
use Rattle.atomic_table.specs.Seated.{TableId}

-- Tickets, as contracts see them: the table that has their word, how many numbers there are (those
-- below n), and how many seats were made.
pub record SeenTickets : Type 0 where
  pub table : TableId
  pub n : ℕ
  pub seats : ℕ

-- A seat, as contracts see it: the table of its tickets and their n, the numbers that it drew, in
-- order, and whether it was ended.
pub record SeenSeat : Type 0 where
  pub table : TableId
  pub n : ℕ
  pub drawn : List ℕ
  pub ended : Bool

-- a seat of these tickets
abbrev pub IsSeatOf : SeenTickets → SeenSeat → Type 0
IsSeatOf tickets seat = (seat.table ≡ tickets.table) × (seat.n ≡ tickets.n)

-- The state of the draw machine is a number k, first 0. An event gives k where k is below n, and else
-- nothing. The state becomes k + 1.
abbrev pub given : ℕ → ℕ → Option ℕ
given n k = if nat_lt k n then Some k else None

-- what the event is to the seat that draws: its list gains the number, or the seat ends
abbrev pub after_draw : SeenSeat → Option ℕ → SeenSeat
after_draw seat (Some k) = record seat { drawn = seat.drawn ++ k ∷ [] }
after_draw seat None = record seat { ended = true }

-- how often x stands in these lists together
abbrev pub times_in : ℕ → List (List ℕ) → ℕ
times_in x lists = sum_by (count_by (nat_eq x)) lists

-- 1 where x is below k, and else 0
abbrev pub once_below : ℕ → ℕ → ℕ
once_below x k = if nat_lt x k then 1 else 0

-- Each number below k stands in exactly one of the lists, once, and no other number stands in any
abbrev pub HaveEachOnce : ℕ → List (List ℕ) → Type 0
HaveEachOnce k lists = (x : ℕ) → times_in x lists ≡ once_below x k
