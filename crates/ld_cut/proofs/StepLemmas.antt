-- A task after an event: what its lines make of it, and that each of them is said.
use Rattle.std.proofs.Common.{◌≡◌, ◌∙◌, ◌++◌, ◌∷◌, ◌&&◌, [], List, ℕ, Bool, true, false, cond, All, Some, Ok, refl, ap, sym, subst}
use Rattle.std.specs.Str.{bytes_eq}
use Rattle.std.specs.List.{list_any}
use Rattle.std.proofs.lemmas.Slice.Eq.{bytes_eq-Decides}
use Rattle.std.proofs.lemmas.List.Elements.{All-cons, All-head, All-nil, All-push, All-tail}
use Rattle.ld_trace.specs.declared.event.State.{State}
use Rattle.ld_trace.specs.declared.event.State.TheVariants.{Hard, Soft}
use Rattle.ld_trace.specs.Lines.{lines, text_of}
use Rattle.ld_trace.specs.Events.{PlainEvent, PlainLock, said_by}
use Rattle.ld_trace.specs.Events.PlainEvent.{Acquire, Try, Nested, Release, Enter, Exit, Enable, Disable, Begin}
use Rattle.ld_rules.specs.Frames.{task_of}
use Rattle.ld_rules.specs.Inner.Scanned.{remove_last}
use Rattle.ld_rules.proofs.PlaceLemmas.{by_pushes}
use Rattle.ld_cut.specs.State.{PlainState, after, after_any}
use Rattle.ld_cut.specs.Inner.Kept.{IsChanged, IsExited, IsSaid, IsTold, IsToldFrame, Kept, KeptAround, KeptBegun, KeptFlag, KeptFrame, KeptHold, KeptTask, has_both_on, in_frame, in_handler, is_of, is_outside, of_begun, of_enter, of_flag, of_hold, settled, stands, with_begun, with_hold, with_set, without, without_flags}
use Rattle.ld_cut.proofs.KeptLemmas.{begin-after, enter-after, exit-after, hold-after, set-after, settled-same, without-after}

changed-stands : (t : KeptTask) (e : PlainEvent) (line : List ℕ) (new : KeptTask) → t.name ≡ task_of e → IsChanged t e line new → stands new ≡ after (stands t) e
changed-stands t (Acquire by lock) line new own is = ap stands is ∙ hold-after t (record { line = line; lock = lock; sub = 0 }) by
changed-stands t (Try by lock) line new own is = ap stands is ∙ hold-after t (record { line = line; lock = lock; sub = 0 }) by
changed-stands t (Nested by lock sub) line new own is = ap stands is ∙ hold-after t (record { line = line; lock = lock; sub = sub }) by
changed-stands t (Release by lock) line new own is = ap stands is ∙ without-after t lock by
changed-stands t (Enter by state) line new own is = ap stands is ∙ enter-after t line state
changed-stands t (Exit by state) line new own is = exit-after t new by state is
changed-stands t (Enable by state) line new own is =
    ap stands is ∙ settled-same (in_frame (with_set state (record { line = line; on = true }) t.inner) t) ∙ set-after t state (record { line = line; on = true }) by
changed-stands t (Disable by state) line new own is =
    ap stands is ∙ settled-same (in_frame (with_set state (record { line = line; on = false }) t.inner) t) ∙ set-after t state (record { line = line; on = false }) by
changed-stands t (Begin by hard soft) line new own is =
    ap stands is ∙ settled-same (in_frame (with_begun (record { line = line; hard = hard; soft = soft }) t.inner) t) ∙ begin-after t (record { line = line; hard = hard; soft = soft }) by

pub changed-after : (t : KeptTask) (e : PlainEvent) (line : List ℕ) (new : KeptTask) → t.name ≡ task_of e → IsChanged t e line new → stands new ≡ after_any t.name (stands t) e
changed-after t e line new own is =
    changed-stands t e line new own is ∙ sym (ap (λ b. cond b (after (stands t) e) (stands t)) ((bytes_eq-Decides t.name (task_of e)).1 own))

-- another task's event changes nothing
pub other-after : (t : KeptTask) (e : PlainEvent) → bytes_eq t.name (task_of e) ≡ false → stands t ≡ after_any t.name (stands t) e
other-after t e other = sym (ap (λ b. cond b (after (stands t) e) (stands t)) other)

-- Lines that are said.

all-less : {X : Type 0} (P : X → Type 0) (p : X → Bool) (xs : List X) → All P xs → All P (remove_last p xs)
all-less P p [] are = are
all-less P p (x ∷ xs) are = by (list_any p xs) (p x) (all-less P p xs (All-tail P x xs are))
  where
    by : (a b : Bool) → All P (remove_last p xs) → All P (cond a (x ∷ remove_last p xs) (cond b xs (x ∷ xs)))
    by true b rest = All-cons P x (remove_last p xs) (All-head P x xs are) rest
    by false true rest = All-tail P x xs are
    by false false rest = are

all-before : {X : Type 0} (P : X → Type 0) (xs : List X) (x : X) → All P (xs ++ x ∷ []) → All P xs
all-before P [] x are = All-nil P
all-before P (y ∷ xs) x are = All-cons P y xs (All-head P y (xs ++ x ∷ []) are) (all-before P xs x (All-tail P y (xs ++ x ∷ []) are))

all-last : {X : Type 0} (P : X → Type 0) (xs : List X) (x : X) → All P (xs ++ x ∷ []) → P x
all-last P [] x are = All-head P x [] are
all-last P (y ∷ xs) x are = all-last P xs x (All-tail P y (xs ++ x ∷ []) are)

told-frame : (t : KeptTask) (frame : KeptFrame) → IsTold t → IsToldFrame t.name frame → IsTold (in_frame frame t)
told-frame t frame told is = record { inner = is; frames = told.frames; enters = told.enters }

told-settled : (t : KeptTask) → IsTold t → IsTold (settled t)
told-settled t told = by (is_outside t.outer && has_both_on t.inner)
  where
    by : (b : Bool) → IsTold (cond b (in_frame (without_flags t.inner) t) t)
    by true = told-frame t (without_flags t.inner) told (record { begun = tt; hard = tt; soft = tt; held = told.inner.held })
    by false = told

module _ (t : KeptTask) (told : IsTold t) (line : List ℕ) (e : PlainEvent) (one : lines line ≡ line ∷ []) (says : said_by (text_of line) ≡ Ok (Some e)) (own : t.name ≡ task_of e) where
  said-as : (does : PlainEvent) → ((s : PlainState) → after s e ≡ after s does) → IsSaid t.name (record { line = line; event = does })
  said-as does same = record { one = one; event = e; says = says; of = sym own; does = same }

  told-hold : (lock : PlainLock) (sub : ℕ) → ((s : PlainState) → after s e ≡ after s (Nested t.name lock sub)) → IsTold (in_frame (with_hold (record { line = line; lock = lock; sub = sub }) t.inner) t)
  told-hold lock sub same =
      told-frame t (with_hold (record { line = line; lock = lock; sub = sub }) t.inner) told
      (record {
        begun = told.inner.begun;
        hard = told.inner.hard;
        soft = told.inner.soft;
        held = All-push (λ hold. IsSaid t.name (of_hold t.name hold)) t.inner.held (record { line = line; lock = lock; sub = sub }) told.inner.held (said-as (Nested t.name lock sub) same);
      })

  told-set : (state : State) (on : Bool) → ((s : PlainState) → after s e ≡ after s (of_flag t.name state (record { line = line; on = on })).event) → IsTold (settled (in_frame (with_set state (record { line = line; on = on }) t.inner) t))
  told-set Hard on same =
      told-settled (in_frame (with_set Hard (record { line = line; on = on }) t.inner) t) (told-frame t (with_set Hard (record { line = line; on = on }) t.inner) told
      (record { begun = told.inner.begun; hard = said-as (of_flag t.name Hard (record { line = line; on = on })).event same; soft = told.inner.soft; held = told.inner.held }))
  told-set Soft on same =
      told-settled (in_frame (with_set Soft (record { line = line; on = on }) t.inner) t) (told-frame t (with_set Soft (record { line = line; on = on }) t.inner) told
      (record { begun = told.inner.begun; hard = told.inner.hard; soft = said-as (of_flag t.name Soft (record { line = line; on = on })).event same; held = told.inner.held }))

  told-begun : (hard soft : Bool) → ((s : PlainState) → after s e ≡ after s (Begin t.name hard soft)) → IsTold (settled (in_frame (with_begun (record { line = line; hard = hard; soft = soft }) t.inner) t))
  told-begun hard soft same =
      told-settled (in_frame (with_begun (record { line = line; hard = hard; soft = soft }) t.inner) t) (told-frame t (with_begun (record { line = line; hard = hard; soft = soft }) t.inner) told
      (record { begun = said-as (Begin t.name hard soft) same; hard = tt; soft = tt; held = told.inner.held }))

  told-enter : (state : State) → ((s : PlainState) → after s e ≡ after s (Enter t.name state)) → IsTold (in_handler t line state)
  told-enter state same =
      let around : KeptAround = record { frame = t.inner; line = line; state = state } in
      record {
        inner = record { begun = tt; hard = tt; soft = tt; held = All-nil (λ hold. IsSaid t.name (of_hold t.name hold)) };
        frames = All-push (λ around. IsToldFrame t.name around.frame) t.outer around told.frames told.inner;
        enters = All-push (λ around. IsSaid t.name (of_enter t.name around)) t.outer around told.enters (said-as (Enter t.name state) same);
      }

told-exit : (t new : KeptTask) → IsTold t → IsExited t new → IsTold new
told-exit t new told is = by_pushes (λ outer. t.outer ≡ outer → IsTold new) (λ at. subst IsTold (sym (is.outside at)) told) some t.outer refl
  where
    some : (others : List KeptAround) (a : KeptAround) → (t.outer ≡ others → IsTold new) → t.outer ≡ others ++ a ∷ [] → IsTold new
    some others a rest at =
        let frames = subst (All (λ around. IsToldFrame t.name around.frame)) at told.frames in
        let enters = subst (All (λ around. IsSaid t.name (of_enter t.name around))) at told.enters in
        subst IsTold (sym (is.inside others a at)) (record {
          inner = all-last (λ around. IsToldFrame t.name around.frame) others a frames;
          frames = all-before (λ around. IsToldFrame t.name around.frame) others a frames;
          enters = all-before (λ around. IsSaid t.name (of_enter t.name around)) others a enters;
        })

pub changed-told : (t : KeptTask) (e : PlainEvent) (line : List ℕ) (new : KeptTask) → IsTold t → lines line ≡ line ∷ [] → said_by (text_of line) ≡ Ok (Some e) → t.name ≡ task_of e → IsChanged t e line new → IsTold new
changed-told t (Acquire by lock) line new told one says own is = subst IsTold (sym is) (told-hold t told line (Acquire by lock) one says own lock 0 (λ s. refl))
changed-told t (Try by lock) line new told one says own is = subst IsTold (sym is) (told-hold t told line (Try by lock) one says own lock 0 (λ s. refl))
changed-told t (Nested by lock sub) line new told one says own is = subst IsTold (sym is) (told-hold t told line (Nested by lock sub) one says own lock sub (λ s. refl))
changed-told t (Release by lock) line new told one says own is =
    subst IsTold (sym is) (told-frame t (without lock t.inner) told
    (record { begun = told.inner.begun; hard = told.inner.hard; soft = told.inner.soft; held = all-less (λ hold. IsSaid t.name (of_hold t.name hold)) (is_of lock) t.inner.held told.inner.held }))
changed-told t (Enter by state) line new told one says own is = subst IsTold (sym is) (told-enter t told line (Enter by state) one says own state (λ s. refl))
changed-told t (Exit by state) line new told one says own is = told-exit t new told is
changed-told t (Enable by state) line new told one says own is = subst IsTold (sym is) (told-set t told line (Enable by state) one says own state true (λ s. refl))
changed-told t (Disable by state) line new told one says own is = subst IsTold (sym is) (told-set t told line (Disable by state) one says own state false (λ s. refl))
changed-told t (Begin by hard soft) line new told one says own is = subst IsTold (sym is) (told-begun t told line (Begin by hard soft) one says own hard soft (λ s. refl))
