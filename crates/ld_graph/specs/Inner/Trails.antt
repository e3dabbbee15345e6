-- What the search for components says of its working space. No public contract cites this file.
use Rattle.std.specs.Prelude.{◌≡◌, ◌≢◌, ◌⊎◌, ℕ, ◌+◌, ◌*◌, ◌-◌, ◌<◌, ◌≤◌, List, [], ◌∷◌, ◌++◌, length, take, slice_index_or, slice_set}
use Rattle.std.specs.Prelude.{Bool, true, false, count_by}
use Rattle.ld_graph.specs.declared.trail.Stage.{Stage}
use Rattle.ld_graph.specs.declared.trail.Stage.TheVariants.{Fresh, Open, Closed}
use Rattle.ld_graph.specs.declared.trail.Frame.{Frame}
use Rattle.ld_graph.specs.declared.trail.Trail.{Trail}
use Rattle.ld_graph.specs.Lists.{IsNear, list_at}
use Rattle.ld_graph.specs.Inner.Repairs.{IsOrReaches}

-- what is seen of the working space
pub record PlainTrail : Type 0 where
  pub stages : List Stage
  pub nexts : List ℕ
  pub waiting : List ℕ
  pub path : List Frame

abbrev pub shown : Trail → PlainTrail
shown t = record { stages = t.stages.items; nexts = t.nexts.items; waiting = t.waiting.items; path = t.path.items }

abbrev pub no_frame : Frame
no_frame = record { class = 0; position = 0; low = 0 }

abbrev pub stage_at : PlainTrail → ℕ → Stage
stage_at t x = slice_index_or t.stages x Fresh

abbrev pub next_at : PlainTrail → ℕ → ℕ
next_at t x = slice_index_or t.nexts x 0

abbrev pub wait_at : PlainTrail → ℕ → ℕ
wait_at t i = slice_index_or t.waiting i 0

abbrev pub frame_at : PlainTrail → ℕ → Frame
frame_at t k = slice_index_or t.path k no_frame

-- the walks of a frame end before this place: before the next frame's, or before the end
abbrev pub IsLimit : PlainTrail → (k limit : ℕ) → Type 0
IsLimit t k limit = ((k + 1 < length t.path) × (limit ≡ (frame_at t (k + 1)).position))
    ⊎ ((k + 1 ≡ length t.path) × (limit ≡ length t.waiting))

-- the component of the class is known, or it waits at this place or behind
abbrev pub IsHandled : PlainTrail → (low y : ℕ) → Type 0
IsHandled t low y = ((r : ℕ) × (stage_at t y ≡ Closed r))
    ⊎ ((i : ℕ) × ((low ≤ i) × ((i < length t.waiting) × (wait_at t i ≡ y))))

-- what the walk makes of what it knows, where it meets a class
abbrev pub entered : PlainTrail → ℕ → PlainTrail
entered t x = record {
  stages = slice_set t.stages x (Open (length t.waiting));
  nexts = t.nexts;
  waiting = t.waiting ++ x ∷ [];
  path = t.path ++ (record { class = x; position = length t.waiting; low = length t.waiting }) ∷ [];
}

-- the last frame
abbrev pub last_of : PlainTrail → ℕ
last_of t = length t.path - 1

abbrev pub top_of : PlainTrail → Frame
top_of t = frame_at t (last_of t)

abbrev pub lowered : Frame → ℕ → Frame
lowered f low = record { class = f.class; position = f.position; low = low }

-- one more successor of the last frame's class was looked at
abbrev pub advanced : PlainTrail → ℕ → PlainTrail
advanced t low = record {
  stages = t.stages;
  nexts = slice_set t.nexts (top_of t).class (next_at t (top_of t).class + 1);
  waiting = t.waiting;
  path = slice_set t.path (last_of t) (lowered (top_of t) low);
}

-- the walk goes back, from a class whose component began before it
abbrev pub returned : PlainTrail → ℕ → PlainTrail
returned t low = record {
  stages = t.stages;
  nexts = t.nexts;
  waiting = t.waiting;
  path = slice_set (take (last_of t) t.path) (last_of t - 1) (lowered (frame_at t (last_of t - 1)) low);
}

-- the component of the last frame's class is told
abbrev pub told : PlainTrail → List Stage → PlainTrail
told t stages = record {
  stages = stages;
  nexts = t.nexts;
  waiting = take (top_of t).position t.waiting;
  path = take (last_of t) t.path;
}

module _ (lists : List (List ℕ)) where
  -- what a frame says of the classes that wait from its place on, and before this limit
  pub record IsFrame (t : PlainTrail) (limit : ℕ) (f : Frame) : Type 0 where
    pub starts : f.position < limit
    pub within : limit ≤ length t.waiting
    pub falls : f.low ≤ f.position
    pub class : wait_at t f.position ≡ f.class
    pub walk : IsOrReaches (IsNear lists) f.class (wait_at t f.low)
    pub back : (j : ℕ) → j < limit → IsOrReaches (IsNear lists) (wait_at t j) f.class
    pub ahead : (j : ℕ) → f.position ≤ j → j < length t.waiting → IsOrReaches (IsNear lists) f.class (wait_at t j)
    pub handled : (j : ℕ) → f.position ≤ j → j < limit → (n : ℕ) → n < next_at t (wait_at t j)
        → n < length (list_at lists (wait_at t j)) → IsHandled t f.low (slice_index_or (list_at lists (wait_at t j)) n 0)
    pub finished : (j : ℕ) → f.position < j → j < limit → length (list_at lists (wait_at t j)) ≤ next_at t (wait_at t j)

  -- each class that waits is told where
  pub record AreStages (t : PlainTrail) : Type 0 where
    pub at : (i : ℕ) → i < length t.waiting → stage_at t (wait_at t i) ≡ Open i
    pub back : (x i : ℕ) → stage_at t x ≡ Open i → (i < length t.waiting) × (wait_at t i ≡ x)
    pub fresh : (x : ℕ) → stage_at t x ≡ Fresh → next_at t x ≡ 0

  -- the components that are known are whole, and no step leads out of them to a class that isn't known
  pub record AreClosed (t : PlainTrail) : Type 0 where
    pub sound : (x r : ℕ) → stage_at t x ≡ Closed r
        → IsOrReaches (IsNear lists) x r × IsOrReaches (IsNear lists) r x
    pub whole : (x y r : ℕ) → stage_at t x ≡ Closed r → IsOrReaches (IsNear lists) x y
        → IsOrReaches (IsNear lists) y x → stage_at t y ≡ Closed r
    pub ahead : (x y r : ℕ) → stage_at t x ≡ Closed r → IsNear lists x y → (s : ℕ) × (stage_at t y ≡ Closed s)

  pub record IsTrail (t : PlainTrail) : Type 0 where
    pub stages_len : length t.stages ≡ length lists
    pub nexts_len : length t.nexts ≡ length lists
    pub stages : AreStages t
    pub closed : AreClosed t
    pub frames : (k limit : ℕ) → IsLimit t k limit → IsFrame t limit (frame_at t k)
    pub rising : (k l : ℕ) → k < l → l < length t.path → (frame_at t k).position < (frame_at t l).position
    pub first : 0 < length t.path → (frame_at t 0).position ≡ 0
    pub none : length t.path ≡ 0 → length t.waiting ≡ 0

-- the classes that waited at this place or behind have the component of this class, and all else is as before
pub record IsToldFrom (waiting : List ℕ) (position class : ℕ) (old new : List Stage) : Type 0 where
  pub len : length new ≡ length old
  pub told : (j : ℕ) → position ≤ j → j < length waiting
      → slice_index_or new (slice_index_or waiting j 0) Fresh ≡ Closed class
  pub rest : (x : ℕ) → ((j : ℕ) → position ≤ j → j < length waiting → slice_index_or waiting j 0 ≢ x)
      → slice_index_or new x Fresh ≡ slice_index_or old x Fresh

-- how many successors are still to be looked at
abbrev pub rest : List (List ℕ) → List ℕ → ℕ
rest [] nexts = 0
rest (near ∷ lists) [] = 0
rest (near ∷ lists) (n ∷ nexts) = (length near - n) + rest lists nexts

abbrev pub is_fresh : Stage → Bool
is_fresh Fresh = true
is_fresh (Open i) = false
is_fresh (Closed r) = false

-- how much is left to do
abbrev pub work : List (List ℕ) → PlainTrail → ℕ
work lists t = 2 * count_by is_fresh t.stages + length t.path + rest lists t.nexts
