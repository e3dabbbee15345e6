-- The lines of tasks as bytes, and what they make of each task.
use Rattle.std.proofs.Common.{◌≡◌, ◌∙◌, ◌<◌, ◌++◌, ◌∷◌, [], List, ℕ, suc, Bool, true, false, cond, length, map, flat_map, filter_map, fold, get_or, All, IfSome, Option, Some, None, Ok, refl, ap, sym, subst, arith, append_assoc}
use Rattle.std.specs.Str.{bytes_eq}
use Rattle.std.specs.List.{cons_option}
use Rattle.std.specs.Option.{option_map, option_to_list}
use Rattle.std.proofs.lemmas.List.Elements.{All-append, All-cons, All-head, All-nil, All-tail, filter_map-append}
use Rattle.std.proofs.lemmas.Slice.Eq.{bytes_eq-Decides}
use Rattle.ld_trace.specs.declared.event.State.TheVariants.{Hard, Soft}
use Rattle.ld_trace.specs.Lines.{lines, text_of}
use Rattle.ld_trace.specs.Events.{PlainEvent, said_by}
use Rattle.ld_rules.specs.Frames.{task_of}
use Rattle.ld_reduce.specs.Written.{ended}
use Rattle.ld_reduce.proofs.LineLemmas.{IsEnded, ended-IsEnded, lines-behind}
use Rattle.ld_reduce.proofs.TextLemmas.{texts-ended}
use Rattle.ld_class.specs.Names.{AreDistinct, class_of_task, no_class}
use Rattle.ld_cut.specs.State.{PlainState, after, after_any, event_said, events_in, idle}
use Rattle.ld_cut.specs.Inner.Kept.{AreSaid, Kept, KeptAround, KeptFrame, KeptHold, KeptTask, IsSaid, IsTold, IsToldFrame, after_kept, of_around, of_begun, of_enter, of_flag, of_frame, of_hold, of_task, stands, task_in, text_of_kept, text_of_tasks}
use Rattle.std.proofs.lemmas.List.{length-map}
use Rattle.std.proofs.Math.ListN.{get_or-map}
use Rattle.ld_cut.specs.Inner.Kept.{new_task}
use Rattle.ld_cut.proofs.TasksLemmas.{at, names_of}

-- the event that the text of a line says
abbrev pub said : List ℕ → Option PlainEvent
said text = event_said (said_by text)

pub events-behind : (bytes rest : List ℕ) → IsEnded bytes → events_in (bytes ++ rest) ≡ events_in bytes ++ events_in rest
events-behind bytes rest is =
    ap (filter_map (λ line. said (text_of line))) (lines-behind bytes rest is) ∙ filter_map-append (λ line. said (text_of line)) (lines bytes) (lines rest)

by_texts : (xs : List (List ℕ)) → filter_map (λ line. said (text_of line)) xs ≡ filter_map said (map text_of xs)
by_texts [] = refl
by_texts (x ∷ xs) = ap (cons_option (said (text_of x))) (by_texts xs)

line-events : (name : List ℕ) (k : Kept) (is : IsSaid name k) → events_in (ended k.line) ≡ is.event ∷ []
line-events name k is =
    by_texts (lines (ended k.line))
    ∙ ap (filter_map said) (texts-ended k.line)
    ∙ ap (λ ls. filter_map said (map text_of ls)) is.one
    ∙ ap (λ s. cons_option (event_said s) []) is.says

-- what the lines of one task make of a task of this name
abbrev pub if_own : List ℕ → List ℕ → PlainState → List Kept → PlainState
if_own task name t ks = cond (bytes_eq task name) (after_kept t ks) t

pub text-after : (name : List ℕ) (ks : List Kept) → AreSaid name ks → (task : List ℕ) (t : PlainState) (rest : List ℕ)
    → fold (after_any task) t (events_in (text_of_kept ks ++ rest)) ≡ fold (after_any task) (if_own task name t ks) (events_in rest)
text-after name [] said task t rest = ap (λ s. fold (after_any task) s (events_in rest)) (by (bytes_eq task name))
  where
    by : (b : Bool) → t ≡ cond b t t
    by true = refl
    by false = refl
text-after name (k ∷ ks) said task t rest =
    let is = All-head (IsSaid name) k ks said in
    let next = after_any task t is.event in
    ap (λ bytes. fold (after_any task) t (events_in bytes)) (append_assoc (ended k.line) (text_of_kept ks) rest)
    ∙ ap (fold (after_any task) t) (events-behind (ended k.line) (text_of_kept ks ++ rest) (ended-IsEnded k.line) ∙ ap (λ es. es ++ events_in (text_of_kept ks ++ rest)) (line-events name k is))
    ∙ text-after name ks (All-tail (IsSaid name) k ks said) task next rest
    ∙ ap (λ s. fold (after_any task) s (events_in rest)) (ap (λ s. if_own task name s ks) (ap (λ n. cond (bytes_eq task n) (after t is.event) t) is.of ∙ ap (λ s. cond (bytes_eq task name) s t) (is.does t)) ∙ by (bytes_eq task name))
  where
    by : (b : Bool) → cond b (after_kept (cond b (after t k.event) t) ks) (cond b (after t k.event) t) ≡ cond b (after_kept t (k ∷ ks)) t
    by true = refl
    by false = refl

-- Each line of a task is said.

option-said : {X : Type 0} (P : Kept → Type 0) (f : X → Kept) (o : Option X) → IfSome o (λ x. P (f x)) → All P (option_to_list (option_map f o))
option-said P f None is = All-nil P
option-said P f (Some x) is = All-cons P (f x) [] is (All-nil P)

map-said : {X : Type 0} (P : Kept → Type 0) (f : X → Kept) (xs : List X) → All (λ x. P (f x)) xs → All P (map f xs)
map-said P f [] are = All-nil P
map-said P f (x ∷ xs) are = All-cons P (f x) (map f xs) (All-head (λ x. P (f x)) x xs are) (map-said P f xs (All-tail (λ x. P (f x)) x xs are))

frame-said : (name : List ℕ) (f : KeptFrame) → IsToldFrame name f → AreSaid name (of_frame name f)
frame-said name f told =
    let P = IsSaid name in
    All-append P _ _ (option-said P (of_begun name) f.begun told.begun)
    (All-append P _ _ (option-said P (of_flag name Hard) f.hard told.hard)
    (All-append P _ _ (option-said P (of_flag name Soft) f.soft told.soft) (map-said P (of_hold name) f.held told.held)))

outer-said : (name : List ℕ) (outer : List KeptAround) → All (λ around. IsToldFrame name around.frame) outer → All (λ around. IsSaid name (of_enter name around)) outer
    → AreSaid name (flat_map (of_around name) outer)
outer-said name [] frames enters = All-nil (IsSaid name)
outer-said name (a ∷ outer) frames enters =
    let P = IsSaid name in
    let frame = frame-said name a.frame (All-head (λ around. IsToldFrame name around.frame) a outer frames) in
    let enter = All-cons P (of_enter name a) [] (All-head (λ around. IsSaid name (of_enter name around)) a outer enters) (All-nil P) in
    All-append P (of_around name a) (flat_map (of_around name) outer)
    (All-append P (of_frame name a.frame) (of_enter name a ∷ []) frame enter)
    (outer-said name outer (All-tail (λ around. IsToldFrame name around.frame) a outer frames) (All-tail (λ around. IsSaid name (of_enter name around)) a outer enters))

pub task-said : (task : KeptTask) → IsTold task → AreSaid task.name (of_task task)
task-said task told =
    All-append (IsSaid task.name) (flat_map (of_around task.name) task.outer) (of_frame task.name task.inner)
    (outer-said task.name task.outer told.frames told.enters) (frame-said task.name task.inner told.inner)

-- The lines of all tasks.

one-after : (t : KeptTask) → IsTold t → (tasks : List KeptTask) (task : List ℕ) (s : PlainState) (rest : List ℕ)
    → fold (after_any task) s (events_in (text_of_tasks (t ∷ tasks) ++ rest)) ≡ fold (after_any task) (if_own task t.name s (of_task t)) (events_in (text_of_tasks tasks ++ rest))
one-after t told tasks task s rest =
    ap (λ bytes. fold (after_any task) s (events_in bytes)) (append_assoc (text_of_kept (of_task t)) (text_of_tasks tasks) rest)
    ∙ text-after t.name (of_task t) (task-said t told) task s (text_of_tasks tasks ++ rest)

others-after : (tasks : List KeptTask) → All IsTold tasks → (task : List ℕ) → ((k : ℕ) → k < length tasks → bytes_eq task (at tasks k).name ≡ false) → (s : PlainState) (rest : List ℕ)
    → fold (after_any task) s (events_in (text_of_tasks tasks ++ rest)) ≡ fold (after_any task) s (events_in rest)
others-after [] told task other s rest = refl
others-after (t ∷ tasks) told task other s rest =
    one-after t (All-head IsTold t tasks told) tasks task s rest
    ∙ ap (λ (b : Bool). fold (after_any task) (cond b (after_kept s (of_task t)) s) (events_in (text_of_tasks tasks ++ rest))) (other 0 (omega arith))
    ∙ others-after tasks (All-tail IsTold t tasks told) task (λ k low. other (suc k) (omega arith)) s rest

distinct-later : (t : KeptTask) (tasks : List KeptTask) → AreDistinct (names_of (t ∷ tasks)) → AreDistinct (names_of tasks)
distinct-later t tasks distinct i j name first second =
    let same : suc i ≡ suc j = distinct (suc i) (suc j) name (let low = first.0 in omega arith, first.1) (let low = second.0 in omega arith, second.1) in
    omega arith

-- another task has another name
apart : (t : KeptTask) (tasks : List KeptTask) → AreDistinct (names_of (t ∷ tasks)) → (task : List ℕ) → bytes_eq task t.name ≡ true → (k : ℕ) → k < length tasks → bytes_eq task (at tasks k).name ≡ false
apart t tasks distinct task own k low = by (bytes_eq task (at tasks k).name) refl
  where
    by : (b : Bool) → bytes_eq task (at tasks k).name ≡ b → b ≡ false
    by false is = refl
    by true is =
        let same : (at tasks k).name ≡ t.name = sym ((bytes_eq-Decides task (at tasks k).name).0 is) ∙ (bytes_eq-Decides task t.name).0 own in
        let count : length (names_of tasks) ≡ length tasks = length-map tasks (λ task. class_of_task task.name) in
        let there : get_or (names_of tasks) k no_class ≡ class_of_task t.name = get_or-map (λ task. class_of_task task.name) tasks k (new_task []) ∙ ap class_of_task same in
        let bad : 0 ≡ suc k = distinct 0 (suc k) (class_of_task t.name) (omega arith, refl) (omega arith, there) in
        absurd (omega arith)

pub tasks-after : (tasks : List KeptTask) → All IsTold tasks → AreDistinct (names_of tasks) → (task rest : List ℕ)
    → fold (after_any task) idle (events_in (text_of_tasks tasks ++ rest)) ≡ fold (after_any task) (stands (task_in tasks task)) (events_in rest)
tasks-after [] told distinct task rest = refl
tasks-after (t ∷ tasks) told distinct task rest =
    one-after t (All-head IsTold t tasks told) tasks task idle rest
    ∙ by (tasks-after tasks (All-tail IsTold t tasks told) (distinct-later t tasks distinct) task rest) (bytes_eq task t.name) refl
  where
    by : fold (after_any task) idle (events_in (text_of_tasks tasks ++ rest)) ≡ fold (after_any task) (stands (task_in tasks task)) (events_in rest)
        → (b : Bool) → bytes_eq task t.name ≡ b
        → fold (after_any task) (cond b (stands t) idle) (events_in (text_of_tasks tasks ++ rest)) ≡ fold (after_any task) (stands (cond b t (task_in tasks task))) (events_in rest)
    by later true own = others-after tasks (All-tail IsTold t tasks told) task (apart t tasks distinct task own) (stands t) rest
    by later false other = later

-- a task before its first event has no lines
pub told-new : (name : List ℕ) → IsTold (new_task name)
told-new name = record {
  inner = record { begun = tt; hard = tt; soft = tt; held = All-nil (λ hold. IsSaid name (of_hold name hold)) };
  frames = All-nil (λ around. IsToldFrame name around.frame);
  enters = All-nil (λ around. IsSaid name (of_enter name around));
}
