-- The frames of a place.
use Rattle.std.specs.Prelude.{◌≡◌, Bool, true, false, List, [], ◌∷◌, Option, Some, None}
use Rattle.ld_trace.specs.declared.event.State.{State}
use Rattle.ld_trace.specs.declared.event.State.TheVariants.{Hard, Soft}
use Rattle.ld_tracks.specs.declared.place.Handlers.TheVariants as running
use Rattle.ld_tracks.specs.declared.place.Handlers.{Handlers}
use Rattle.ld_tracks.specs.declared.place.Place.{Place}
use Rattle.ld_tracks.specs.Format.{Frame, handler}

-- what runs outside handlers
abbrev pub outside_of : Place → Frame
outside_of place = record { state = None; flags = place.outside }

-- the handler of a softirq, where softirqs are disabled
abbrev pub soft_of : Place → Frame
soft_of place = record { state = Some Soft; flags = record { hard = place.in_soft; soft = false } }

abbrev pub inner_by : Handlers → Place → Frame
inner_by running.Outside place = outside_of place
inner_by running.Soft place = soft_of place
inner_by running.Hard place = handler Hard (outside_of place)
inner_by running.HardOverSoft place = handler Hard (soft_of place)

abbrev pub outer_by : Handlers → Place → List Frame
outer_by running.Outside place = []
outer_by running.Soft place = outside_of place ∷ []
outer_by running.Hard place = outside_of place ∷ []
outer_by running.HardOverSoft place = soft_of place ∷ outside_of place ∷ []

-- its innermost frame, and those around that one from the inside out
abbrev pub inner_of : Place → Frame
inner_of place = inner_by place.handlers place

abbrev pub outer_of : Place → List Frame
outer_of place = outer_by place.handlers place

-- The state's flag has an effect in a frame: neither has in a handler of a hardware interrupt, and in one of a
-- softirq softirqs stay disabled. A handler of the state may begin there alone.
abbrev pub has_effect_by : State → Option State → Bool
has_effect_by state None = true
has_effect_by Hard (Some Soft) = true
has_effect_by Soft (Some Soft) = false
has_effect_by state (Some Hard) = false

abbrev pub has_effect : State → Frame → Bool
has_effect state frame = has_effect_by state frame.state

-- The second is the first behind the end of its innermost handler, where these are the frames around that one.
abbrev pub IsLeft : List Frame → Place → Place → Type 0
IsLeft [] place left = left ≡ place
IsLeft (frame ∷ frames) place left = (inner_of left ≡ frame) × (outer_of left ≡ frames)
