-- How the lists of neighbours lie in memory. No public contract cites this file.
use Rattle.std.specs.Prelude.{◌≡◌, ◌≢◌, ℕ, ◌+◌, ◌-◌, ◌*◌, ◌<◌, ◌≤◌, ◌⊎◌, max, List, [], ◌∷◌, ◌++◌}
use Rattle.std.specs.Prelude.{length, take, drop, replicate, slice_index_or}
use Rattle.ld_graph.specs.declared.neighbours.Run.{Run}

abbrev pub no_run : Run
no_run = record { start = 0; len = 0; room = 0 }

abbrev pub run_at : List Run → ℕ → Run
run_at runs i = slice_index_or runs i no_run

-- the items of a run
abbrev pub items_of : List ℕ → Run → List ℕ
items_of slots r = take r.len (drop r.start slots)

abbrev pub total : (Run → ℕ) → List Run → ℕ
total f [] = 0
total f (r ∷ rs) = f r + total f rs

-- two runs lie apart
abbrev pub AreApart : Run → Run → Type 0
AreApart r s = (r.start + r.room ≤ s.start) ⊎ (s.start + s.room ≤ r.start)

-- each run lies within the slots, apart from the others, with room for at most twice its items, and
-- all slots together are at most twice as many as the rooms, since a run that moves gets twice its
-- room
pub record AreRuns (runs : List Run) (slots : List ℕ) (items : ℕ) : Type 0 where
  pub fits : (i : ℕ) → i < length runs
      → ((run_at runs i).len ≤ (run_at runs i).room)
      × ((run_at runs i).room ≤ 2 * (run_at runs i).len)
      × ((run_at runs i).start + (run_at runs i).room ≤ length slots)
  pub apart : (i j : ℕ) → i < length runs → j < length runs → i ≢ j
      → AreApart (run_at runs i) (run_at runs j)
  pub used : length slots ≤ 2 * total (λ r. r.room) runs
  pub counted : items ≡ total (λ r. r.len) runs

-- the run has room for one more item: as it is, or at the end of the slots, with twice its room
pub record HasMoved (old : List ℕ) (run : Run) (new : List ℕ) (made : Run) : Type 0 where
  pub full : run.len ≡ run.room
  pub start : made.start ≡ length old
  pub len : made.len ≡ run.len
  pub room : made.room ≡ max 1 (2 * run.len)
  pub items : new ≡ (old ++ items_of old run) ++ replicate (made.room - run.len) 0

abbrev pub HasWay : List ℕ → Run → List ℕ → Run → Type 0
HasWay old run new made = ((run.len < run.room) × (new ≡ old) × (made ≡ run))
    ⊎ HasMoved old run new made
