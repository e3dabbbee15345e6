-- What the scan keeps of a task's frames and flags, read as lists: the innermost frame first.
-- No contract of a `Batch` cites this file.
use Rattle.std.specs.Prelude.{◌≡◌, ℕ, Bool, true, false, ◌&&◌, not, List, [], ◌∷◌, ◌++◌, map, drop}
use Rattle.std.specs.Prelude.{slice_index_or, Option, Some, None, if◌then◌else◌}
use Rattle.std.specs.List.{list_any}
use Rattle.ld_trace.specs.declared.event.State.{State}
use Rattle.ld_trace.specs.declared.event.State.TheVariants.{Hard, Soft}
use Rattle.ld_tables.specs.declared.interrupts.Flag.{Flag}
use Rattle.ld_tables.specs.declared.interrupts.Flag.TheVariants.{On, Off}
use Rattle.ld_tables.specs.declared.interrupts.Flags.{Flags}
use Rattle.ld_tables.specs.declared.interrupts.OpenFrame.{OpenFrame}
use Rattle.ld_tables.specs.declared.interrupts.Interrupts.{Interrupts}
use Rattle.ld_class.specs.declared.usage.Usage.{Usage}
use Rattle.ld_class.specs.Usage.{has_bit}
use Rattle.ld_rules.specs.Flags.{same_state}
use Rattle.ld_rules.specs.Usage.{usage_of}
use Rattle.ld_rules.specs.Usage.Bit.{In, On}

-- an open frame with its state
pub record FrameWithState : Type 0 where
  pub state : State
  pub frame : OpenFrame

-- a frame of this state, if it is open, over those around it
abbrev pub with_frame : State → Option OpenFrame → List FrameWithState → List FrameWithState
with_frame state None around = around
with_frame state (Some frame) around = record { state = state; frame = frame } ∷ around

abbrev pub frames_of : Interrupts → List FrameWithState
frames_of interrupts = with_frame Hard interrupts.hard (with_frame Soft interrupts.soft [])

abbrev pub states_of : Interrupts → List State
states_of interrupts = map (λ f. f.state) (frames_of interrupts)

-- where the locks of each frame begin
abbrev pub starts_of : Interrupts → List ℕ
starts_of interrupts = map (λ f. f.frame.start) (frames_of interrupts)

abbrev pub flag_of : State → Flags → Bool
flag_of Hard flags = flags.hard
flag_of Soft flags = flags.soft

-- the flag in each frame, and last the one outside frames
abbrev pub levels_of : State → Interrupts → List Bool
levels_of state interrupts =
    map (λ f. flag_of state f.frame.flags) (frames_of interrupts)
    ++ flag_of state interrupts.outside ∷ []

-- in the innermost frame: the flag, what is enabled, and where the locks begin

abbrev pub flag_now : State → Interrupts → Bool
flag_now state interrupts = slice_index_or (levels_of state interrupts) 0 true

abbrev pub enabled_now : State → Interrupts → Bool
enabled_now Hard interrupts = flag_now Hard interrupts
enabled_now Soft interrupts = flag_now Hard interrupts && flag_now Soft interrupts

abbrev pub start_now : Interrupts → ℕ
start_now interrupts = slice_index_or (starts_of interrupts) 0 0

-- where the locks of the innermost frame begin; and these are the bits of a class that is waited for here, and of one
-- that is held here
pub record AreShown (interrupts : Interrupts) (start : ℕ) (in_bits on_bits : Usage) : Type 0 where
  pub begins : start ≡ start_now interrupts
  pub waits : (state : State) → has_bit in_bits (usage_of (In state)) ≡ list_any (same_state state) (states_of interrupts)
  pub holds : (state : State) → has_bit on_bits (usage_of (On state)) ≡ enabled_now state interrupts

-- a frame of the state may open over these
abbrev pub nests_in : List State → State → Bool
nests_in states Hard = not (list_any (same_state Hard) states)
nests_in states Soft = not (list_any (λ state. true) states)

-- outside frames, with both flags on
abbrev pub fresh : Interrupts
fresh = record { outside = record { hard = true; soft = true }; soft = None; hard = None }

-- a frame of this state opened, whose locks begin here: the flag of its own state is off in it, and
-- the other as before
pub record IsEntered (state : State) (start : ℕ) (old new : Interrupts) : Type 0 where
  pub states : states_of new ≡ state ∷ states_of old
  pub starts : starts_of new ≡ start ∷ starts_of old
  pub levels : (of : State)
      → levels_of of new
      ≡ (if same_state of state then false else flag_now of old) ∷ levels_of of old

-- the innermost frame closed
pub record IsLeft (old new : Interrupts) : Type 0 where
  pub states : states_of new ≡ drop 1 (states_of old)
  pub starts : starts_of new ≡ drop 1 (starts_of old)
  pub levels : (of : State) → levels_of of new ≡ drop 1 (levels_of of old)

abbrev pub is_on : Flag → Bool
is_on On = true
is_on Off = false

-- the flag for this state went on or off in the innermost frame
pub record IsSet (state : State) (on : Bool) (old new : Interrupts) : Type 0 where
  pub states : states_of new ≡ states_of old
  pub starts : starts_of new ≡ starts_of old
  pub levels : (of : State)
      → levels_of of new
      ≡ (if same_state of state then on ∷ drop 1 (levels_of of old) else levels_of of old)
