-- A task's fields, and what they are as plain data.
use Rattle.std.proofs.Common.{◌≡◌, ◌&&◌, ◌∷◌, [], List, ℕ, Bool, true, false, map, filter, Option, refl, ap, sym, ◌∙◌, if◌then◌else◌}
use Rattle.std.proofs.lemmas.Simd.{map-map}
use Rattle.std.proofs.lemmas.Slice.Eq.{bytes_eq-Decides}
use Rattle.std.specs.Str.{bytes_eq}
use Rattle.ld_trace.specs.Events.{PlainLock, Position, plain_lock}
use Rattle.ld_rules.specs.Frames.{frame_of, frames}
use Rattle.ld_rules.specs.Held.{Acquisition, acquisition_of, acquires, held_in, placed, releases, same_frame, same_key, same_lock}
use Rattle.ld_rules.specs.Open.{openings}
use Rattle.ld_rules.specs.Outcome.{events}
use Rattle.ld_rules.specs.Inner.Scanned.{remove_last}
use Rattle.ld_rules.proofs.RemoveLemmas.{map-remove_last}
use Rattle.ld_replay.specs.declared.hold.Handler.{Handler}
use Rattle.ld_replay.specs.declared.hold.Hold.{Hold}
use Rattle.ld_replay.specs.HeldAt.{event_lines, handler_lines, held_lines, held_lines_by, held_lines_in, opened_at, plain_handler, plain_hold}
use Rattle.ld_replay.specs.Inner.Task.{IsAfter, PlainTask, frame_now, handler_of, has_key, inner_handler, is_under, key_now}
use Rattle.ld_replay.proofs.StepLemmas.{frame-is}

-- the last lock under a key, among those of a task
released : (name : List ℕ) (holds : List Hold) (frame : Option ℕ) (lock : PlainLock) → map (plain_hold name) (remove_last (is_under frame lock) holds) ≡ remove_last
    (has_key (record { task = name; frame = frame; lock = lock })) (map (plain_hold name) holds)
released name holds frame lock =
    let own : bytes_eq name name ≡ true = (bytes_eq-Decides name name).1 refl in
    ap (λ (b : Bool). map (plain_hold name) (remove_last (λ h. (b && same_frame frame h.frame) && same_lock lock (plain_lock h.lock)) holds)) (sym own)
    ∙ map-remove_last (plain_hold name) (has_key (record { task = name; frame = frame; lock = lock })) holds

-- the task without that lock
pub without : (seen task : PlainTask) → seen ≡ task → (holds after : List Hold) (frame : Option ℕ) (lock : PlainLock) → seen.holds ≡ map (plain_hold seen.name) holds →
    frame ≡ frame_now task → after ≡ remove_last (is_under frame lock) holds → record seen { holds = map (plain_hold seen.name) after } ≡ record task { holds = remove_last (has_key (key_now task lock)) task.holds }
without seen task is holds after frame lock holds_is frame_is after_is =
    let removed : map (plain_hold seen.name) after ≡ remove_last (has_key (key_now seen lock)) seen.holds =
    ap (map (plain_hold seen.name)) (after_is ∙ ap (λ f. remove_last (is_under f lock) holds) (frame_is ∙ sym (ap frame_now is)))
    ∙ released seen.name holds (frame_now seen) lock ∙ ap (remove_last (has_key (key_now seen lock))) (sym holds_is) in
    (λ i. record seen { holds = removed i }) ∙ ap {A = PlainTask} (λ t. record t { holds = remove_last (has_key (key_now t lock)) t.holds }) is

-- a filter of a map, where the test is of the image
filter-map : {X Y : Type 0} (f : X → Y) (p : Y → Bool) (xs : List X) → map f (filter (λ x. p (f x)) xs) ≡ filter p (map f xs)
filter-map f p [] = refl
filter-map f p (x ∷ xs) = by (p (f x)) (filter-map f p xs)
  where
    by : (b : Bool) → map f (filter (λ y. p (f y)) xs) ≡ filter p (map f xs) → map f (if b then x ∷ filter (λ y. p (f y)) xs else filter (λ y. p (f y)) xs) ≡ (if b then f x ∷ filter p (map f xs) else filter p (map f xs))
    by true rest = ap (λ ys. f x ∷ ys) rest
    by false rest = rest

-- the locks of one frame
pub in-frame : (name : List ℕ) (holds : List Hold) (frame : Option ℕ) → map (plain_hold name) (filter (λ h. same_frame frame h.frame) holds) ≡ filter (λ one. same_frame frame one.what.key.frame) (map (plain_hold name) holds)
in-frame name holds frame = filter-map (plain_hold name) (λ one. same_frame frame one.what.key.frame) holds

-- the locks with their lines are those of *Held locks*
pub held-is : (past : List Position) (task : List ℕ) (frame : Option ℕ) → map (λ one. one.what) (held_lines_in past task frame) ≡ held_in (events past) task frame
held-is past task frame =
    filter-map (λ one. one.what) (λ (one : Acquisition). same_frame frame one.key.frame) (held_lines_by past task)
    ∙ ap (filter (λ one. same_frame frame one.key.frame)) (filter-map (λ one. one.what) (λ (one : Acquisition). bytes_eq task one.key.task) (held_lines past))
    ∙ ap (λ all. filter (λ one. same_frame frame one.key.frame) (filter (λ one. bytes_eq task one.key.task) all))
    (map-map (λ one. one.what) (opened_at acquisition_of (event_lines past)) (openings same_key acquires releases (placed (events past))))

-- what a task has open, in a frame, is what it has open there after these positions
module _ (past : List Position) (seen task : PlainTask) (is : seen ≡ task) (after : IsAfter past task) (name : List ℕ) (of : task.name ≡ name) where
  pub lines-at : (holds kept : List Hold) (frame : Option ℕ) → seen.holds ≡ map (plain_hold seen.name) holds → frame ≡ frame_now task → kept ≡ filter (λ h. same_frame frame h.frame) holds →
      map (plain_hold name) kept ≡ held_lines_in past name (frame_of (events past) name)
  lines-at holds kept frame holds_is frame_now_is kept_is =
      let named : seen.name ≡ name = ap (λ t. t.name) is ∙ of in
      let in_it : frame ≡ frame_of (events past) name = frame_now_is ∙ frame-is past task after ∙ ap (frame_of (events past)) of in
      ap (λ n. map (plain_hold n) kept) (sym named)
      ∙ ap (map (plain_hold seen.name)) kept_is
      ∙ in-frame seen.name holds frame
      ∙ ap (filter (λ one. same_frame frame one.what.key.frame)) (sym holds_is ∙ ap (λ t. t.holds) is ∙ after.holds)
      ∙ (λ i. held_lines_in past (of i) (in_it i))

  pub handlers-at : (handlers : List Handler) → seen.handlers ≡ map inner_handler handlers → map plain_handler handlers ≡ handler_lines past name
  handlers-at handlers handlers_is =
      sym (map-map (λ h. h.seen) inner_handler handlers)
      ∙ ap (map (λ h. h.seen)) (sym handlers_is ∙ ap (λ t. t.handlers) is ∙ after.handlers)
      ∙ map-map (λ h. h.seen) (handler_of (event_lines past)) (frames (events past) task.name)
      ∙ ap (handler_lines past) of
