-- The running rule of the tickets, and what the kinds of step do to a view.
use Rattle.std.specs.Prelude.{◌≡◌, ◌+◌, ◌-◌, ◌<◌, ◌≤◌, ◌++◌, ◌∷◌, [], ℕ, List, Option, Some, None, All, length, map, min, slice_index}
use Rattle.std.specs.List.{sum_by}
use Rattle.atomic_table.specs.Table.{State}
use Rattle.ld_tickets.specs.declared.rule.MadeWith.{MadeWith}
use Rattle.ld_tickets.specs.declared.rule.View.{View}
use Rattle.ld_tickets.specs.declared.rule.TheConstants.{MOST_NUMBERS, MOST_SEATS}
use Rattle.ld_tickets.specs.Draw.{given, HaveEachOnce}

-- Of each view: one that stands for a seat has the n and the seats that were asked for; no view has
-- more ended than seats; a view of no seat has no numbers.
pub record IsSound (made_with : MadeWith) (v : View) : Type 0 where
  pub agrees : 0 < v.seats → (v.n ≡ made_with.n) × (v.asked ≡ made_with.seats)
  pub ends : v.ended ≤ v.seats
  pub idle : v.seats ≡ 0 → v.drawn ≡ []

-- Of the word, which is the state of the draw machine, and of all views. The word is so small that
-- it never wraps.
pub record IsRunning (made_with : MadeWith) (word : ℕ) (views : List View) : Type 0 where
  pub few : (made_with.n ≤ MOST_NUMBERS) × (made_with.seats ≤ MOST_SEATS)
  pub seats : sum_by (λ v. v.seats) views ≡ made_with.seats
  pub sound : All (IsSound made_with) views
  pub numbers : HaveEachOnce (min word made_with.n) (map (λ v. v.drawn) views)
  pub over : 0 < sum_by (λ v. v.ended) views → made_with.n ≤ word
  pub bound : word ≤ made_with.n + sum_by (λ v. v.ended) views

-- between any two steps
abbrev pub Holds : MadeWith → State (Unit {0}) View → Type 0
Holds made_with s = (length s.words ≡ 1) × IsRunning made_with (slice_index s.words 0) s.views

-- The table is made with its first seat: the first view stands for all seats, without numbers.
abbrev pub all_seats : MadeWith → View
all_seats made_with = record { n = made_with.n; asked = made_with.seats; seats = made_with.seats; drawn = []; ended = 0 }

-- A seat is split: a view gives one seat to a new view without numbers.
abbrev pub one_seat_less : View → View
one_seat_less v = record v { seats = v.seats - 1 }

abbrev pub one_seat : View → View
one_seat v = record { n = v.n; asked = v.asked; seats = 1; drawn = []; ended = 0 }

-- A seat draws at the state k: its view gains k, which is above all numbers that it has; or the view
-- counts one ended.
abbrev pub DrawsGiven : View → Option ℕ → View → Type 0
DrawsGiven v (Some k) v' = (v' ≡ record v { drawn = v.drawn ++ k ∷ [] }) × All (λ other. other < k) v.drawn
DrawsGiven v None v' = v' ≡ record v { ended = v.ended + 1 }

abbrev pub Draws : View → ℕ → View → Type 0
Draws v k v' = DrawsGiven v (given v.n k) v'

-- A seat is joined: its seats, numbers and ends pass to another view, and a spent one is left.
abbrev pub together : View → View → View
together v w = record v { seats = v.seats + w.seats; drawn = v.drawn ++ w.drawn; ended = v.ended + w.ended }

abbrev pub spent : View
spent = record { n = 0; asked = 0; seats = 0; drawn = []; ended = 0 }
