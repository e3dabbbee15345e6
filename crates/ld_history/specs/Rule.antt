-- The running rule of a history, and what its steps do to a view.
use Rattle.std.specs.Prelude.{◌≡◌, ℕ, List, [], ◌∷◌, ◌++◌, length, true, false}
use mathlib.Core.Option.{some}
use mathlib.Core.List.{IsPrefix}
use lib.ListN.{get_elem?}
use Rattle.atomic_table.specs.Table.{State}
use Rattle.ld_history.specs.declared.rule.Entry.{Entry}
use Rattle.ld_history.specs.declared.rule.View.{View}

-- what the one seat knows that keeps the history
abbrev pub keeper : List Entry → View
keeper all = record { keeps = true; all = all; seen = [] }

-- what a seat knows that has seen a beginning of it
abbrev pub reader : List Entry → View
reader seen = record { keeps = false; all = []; seen = seen }

-- The keeper adds an entry.
abbrev pub longer : View → Entry → View
longer v entry = record { keeps = v.keeps; all = v.all ++ entry ∷ []; seen = v.seen }

-- The one is shown what the other has seen.
abbrev pub beside : View → View → View
beside v w = record { keeps = v.keeps; all = v.all; seen = w.seen }

-- Of one view: if it keeps the history, it is that of the one seat that may, and has all of it. What it has seen is a
-- beginning of it.
abbrev pub Fits : ℕ → List Entry → ℕ → View → Type 0
Fits seat log by v = (v.keeps ≡ true → (by ≡ seat) × (v.all ≡ log)) × IsPrefix v.seen log

-- between any two steps: there are one history and one seat that keeps it, and each view fits
pub record IsKept (s : State (Unit {0}) View) : Type 0 where
  pub word : length s.words ≡ 1
  pub seat : ℕ
  pub log : List Entry
  pub fits : (by : ℕ) (v : View) → get_elem? s.views by ≡ some v → Fits seat log by v
