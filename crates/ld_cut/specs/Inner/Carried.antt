-- What is carried over into a piece.
use Rattle.std.specs.Prelude.{◌≡◌, ◌++◌, ℕ, List}
use Rattle.ld_cut.specs.State.{state_in}
use Rattle.ld_cut.specs.Inner.Kept.{KeptTask, stands, task_in}

-- a piece with what these tasks are in and hold in front of lines
pub record IsCarried (tasks : List KeptTask) (own piece : List ℕ) : Type 0 where
  pub front : List ℕ
  pub is : piece ≡ front ++ own
  pub carried : (task : List ℕ) → state_in task front ≡ stands (task_in tasks task)
