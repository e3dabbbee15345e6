-- What one read adds to what was read.
use Rattle.std.specs.Prelude.{ℕ, List, ◌≡◌, ◌++◌}

-- a list gains some items at its end, of which P holds
abbrev pub Gains : List ℕ → List ℕ → (List ℕ → Type 0) → Type 0
Gains old new P = (items : List ℕ) × (new ≡ old ++ items) × P items
