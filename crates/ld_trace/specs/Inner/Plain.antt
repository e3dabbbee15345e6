-- The plainest form of a line of a lock or of a state, as the functions that read it in one pass see it. No public
-- contract cites this file.
use Rattle.std.specs.Prelude.{◌≡◌, ℕ, Bool, true, false, List, [], ◌∷◌, ◌++◌, Option, Some, None, IfSome, codes}
use Rattle.ld_trace.specs.declared.event.State.{State}
use Rattle.ld_trace.specs.declared.event.State.TheVariants.{Hard, Soft}
use Rattle.ld_trace.specs.Lines.{is_name}
use Rattle.ld_trace.specs.Events.{PlainLock}

-- how the lock of this class with that instance is spelled
abbrev pub spelling_with : List ℕ → Option (List ℕ) → List ℕ
spelling_with class None = class
spelling_with class (Some instance) = class ++ 64 ∷ instance

-- how a state is spelled
abbrev pub spelling_of_state : State → List ℕ
spelling_of_state Hard = codes "hard"
spelling_of_state Soft = codes "soft"

-- how the end of a line is spelled: an LF, with a CR before it or without
abbrev pub line_end : Bool → List ℕ
line_end true = 13 ∷ 10 ∷ []
line_end false = 10 ∷ []

-- the bytes begin with the end of a line, and these follow
pub record IsEnded (bytes rest : List ℕ) : Type 0 where
  pub cr : Bool
  pub whole : bytes ≡ line_end cr ++ rest

-- the bytes begin with a lock and the end of a line, and these follow
pub record IsLockLine (bytes : List ℕ) (lock : PlainLock) (rest : List ℕ) : Type 0 where
  pub after : List ℕ
  pub whole : bytes ≡ spelling_with lock.class lock.instance ++ after
  pub ended : IsEnded after rest
  pub class : is_name lock.class ≡ true
  pub instance : IfSome lock.instance (λ name. is_name name ≡ true)
