-- What an event adds to the usage.
use Rattle.std.proofs.Common.{◌≡◌, ◌++◌, ◌∷◌, [], List, ℕ, Bool, true, false, ◌&&◌, ◌||◌, not, cond, map, filter, fold, Some, Result}
use Rattle.std.proofs.Common.{Ok, Err, refl, ap, sym, ◌∙◌, append_assoc, if◌then◌else◌}
use Rattle.std.proofs.lemmas.Bool.{true≢false, and_parts, and_from, or_left, or_right}
use Rattle.std.proofs.lemmas.Bool.Decides.{Decides-and, Decides-like}
use Rattle.std.proofs.lemmas.List.{append-nil, map-append}
use Rattle.std.proofs.lemmas.List.Elements.{filter-append}
use Rattle.std.proofs.lemmas.List.Folds.{list_any-append, list_all-map}
use Rattle.std.proofs.lemmas.List.Sums.{fold-append}
use Rattle.std.proofs.lemmas.Simd.{map-map}
use Rattle.std.proofs.lemmas.Slice.Eq.{bytes_eq-Decides}
use Rattle.std.specs.Bool.{Decides}
use Rattle.std.specs.List.{list_all, list_any}
use Rattle.std.specs.Str.{bytes_eq}
use Rattle.ld_class.specs.Names.{same_class}
use Rattle.ld_class.specs.Usage.{has_bit, no_bits}
use Rattle.ld_class.proofs.Mapped.{list_any-map}
use Rattle.ld_class.proofs.NameLemmas.{same_class-Decides}
use Rattle.ld_trace.specs.declared.event.LineFault.{LineFault}
use Rattle.ld_trace.specs.declared.event.State.{State}
use Rattle.ld_trace.specs.declared.event.State.TheVariants.{Hard, Soft}
use Rattle.ld_trace.specs.Events.{PlainEvent, PlainLock, Position}
use Rattle.ld_trace.specs.Events.PlainEvent.{Acquire, Try, Nested, Release, Enter, Exit, Enable, Disable, Begin}
use Rattle.ld_rules.specs.Frames.{task_of, contexts, frame_of}
use Rattle.ld_rules.specs.Inner.Levels.{is_interrupt}
use Rattle.ld_rules.specs.Held.{Acquisition, class_awaited, held, held_by, lock_acquired}
use Rattle.ld_rules.specs.Flags.{same_state, is_enabled}
use Rattle.ld_rules.specs.Outcome.{events}
use Rattle.ld_rules.specs.Dependency.{Seen, seen_at, seen}
use Rattle.ld_rules.specs.Usage.{Bit, bit_of, same_bit, usage_of, Use, same_use, in_uses, on_uses, uses_at, uses_in}
use Rattle.ld_rules.specs.Usage.Bit.{In, On}
use Rattle.ld_rules.specs.Inner.Scanned.{same_use_seen, with_new}
use Rattle.ld_rules.proofs.RemoveLemmas.{filter-remove_other, list_all-remove_last}
use Rattle.ld_rules.proofs.PlaceLemmas.{all_known, any_of_added, any_with_all, any_with_new, by_pushes}
use Rattle.ld_rules.proofs.FrameLemmas.{contexts-other}
use Rattle.ld_rules.proofs.HeldLemmas.{Decides-same_key, acquisition_at, has_key, is_of_task, held-acquires, held-releases, held-other, held_by-acquires, held_by-releases, held_by-other}
use Rattle.ld_rules.proofs.OutcomeLemmas.{events-push, seen-push}
use Rattle.ld_rules.proofs.FlagLemmas.{is_enabled-other, is_enabled-quiet, enabled_before_enter, enabled_before_disable}

-- Lists.

pub list_all_mono : {X : Type 0} (p q : X → Bool) → ((x : X) → p x ≡ true → q x ≡ true) → (xs : List X) → list_all p xs ≡ true → list_all q xs ≡ true
list_all_mono p q more [] all = refl
list_all_mono p q more (x ∷ xs) all =
    let parts = and_parts (p x) (list_all p xs) all in
    and_from (q x) (list_all q xs) (more x parts.0) (list_all_mono p q more xs parts.1)

-- what all of a filtered list pass
pub list_all-filter : {X : Type 0} (p q : X → Bool) (xs : List X) → list_all p (filter q xs) ≡ list_all (λ x. not (q x) || p x) xs
list_all-filter p q [] = refl
list_all-filter p q (x ∷ xs) = by (list_all-filter p q xs) (q x)
  where
    by : list_all p (filter q xs) ≡ list_all (λ y. not (q y) || p y) xs → (b : Bool) → list_all p (cond b (x ∷ filter q xs) (filter q xs)) ≡ ((not b || p x) && list_all (λ y. not (q y) || p y) xs)
    by rest true = ap (λ c. p x && c) rest
    by rest false = rest

-- a part of the list passes too
pub list_all-part : {X : Type 0} (p q : X → Bool) (xs : List X) → list_all p xs ≡ true → list_all p (filter q xs) ≡ true
list_all-part p q xs all = list_all-filter p q xs ∙ list_all_mono p (λ x. not (q x) || p x) (λ x h. or_right (not (q x)) (p x) h) xs all

-- a filter by two tests, one of which says the same wherever the other holds
pub filter_where : {X : Type 0} (t q : X → Bool) (b : Bool) → ((x : X) → t x ≡ true → q x ≡ b) → (xs : List X) → filter (λ x. t x && q x) xs ≡ filter t (if b then xs else [])
filter_where t q true same [] = refl
filter_where t q true same (x ∷ xs) = by (filter_where t q true same xs) (t x) refl
  where
    by : filter (λ y. t y && q y) xs ≡ filter t xs → (c : Bool) → t x ≡ c → cond (c && q x) (x ∷ filter (λ y. t y && q y) xs) (filter (λ y. t y && q y) xs) ≡ cond c (x ∷ filter t xs) (filter t xs)
    by rest true is = ap (λ d. cond d (x ∷ filter (λ y. t y && q y) xs) (filter (λ y. t y && q y) xs)) (same x is) ∙ ap (λ ys. x ∷ ys) rest
    by rest false is = rest
filter_where t q false same [] = refl
filter_where t q false same (x ∷ xs) = by (filter_where t q false same xs) (t x) refl
  where
    by : filter (λ y. t y && q y) xs ≡ [] → (c : Bool) → t x ≡ c → cond (c && q x) (x ∷ filter (λ y. t y && q y) xs) (filter (λ y. t y && q y) xs) ≡ []
    by rest true is = ap (λ d. cond d (x ∷ filter (λ y. t y && q y) xs) (filter (λ y. t y && q y) xs)) (same x is) ∙ rest
    by rest false is = rest

-- The list with each that is new.

or_more : (a b c d : Bool) → (c ≡ true → d ≡ true) → (a || (b || c)) ≡ true → (a || (b || d)) ≡ true
or_more true b c d more h = refl
or_more false true c d more h = refl
or_more false false c d more h = more h

module _ {X Y : Type 0} (same : Y → Y → Bool) (f : X → Y) (t q : X → Bool) where
  -- where all that pass q and fail t are known, only those that pass both are added
  pub fold_known : (xs : List X) (known : List Y) → list_all (λ x. not (q x) || (t x || list_any (same (f x)) known)) xs ≡ true → fold (with_new same)
      known (map f (filter q xs)) ≡ fold (with_new same) known (map f (filter (λ x. t x && q x) xs))
  fold_known [] known all = refl
  fold_known (x ∷ xs) known all = by (fold_known xs) (q x) refl (t x) refl
    where
      parts : ((not (q x) || (t x || list_any (same (f x)) known)) ≡ true) × (list_all (λ y. not (q y) || (t y || list_any (same (f y)) known)) xs ≡ true)
      parts = and_parts (not (q x) || (t x || list_any (same (f x)) known)) (list_all (λ y. not (q y) || (t y || list_any (same (f y)) known)) xs) all

      grown : list_all (λ y. not (q y) || (t y || list_any (same (f y)) (with_new same known (f x)))) xs ≡ true
      grown = list_all_mono (λ y. not (q y) || (t y || list_any (same (f y)) known)) (λ y. not (q y) || (t y || list_any (same (f y)) (with_new same known (f x))))
          (λ y h. or_more (not (q y)) (t y) (list_any (same (f y)) known) (list_any (same (f y)) (with_new same known (f x))) (any_with_new same (same (f y)) known (f x)) h) xs parts.1

      by : ((more : List Y) → list_all (λ y. not (q y) || (t y || list_any (same (f y)) more)) xs ≡ true → fold (with_new same) more
          (map f (filter q xs)) ≡ fold (with_new same) more (map f (filter (λ y. t y && q y) xs))) → (b : Bool) → q x ≡ b → (c : Bool) → t x ≡ c →
          fold (with_new same) known (map f (cond b (x ∷ filter q xs) (filter q xs))) ≡ fold (with_new same) known
          (map f (cond (c && b) (x ∷ filter (λ y. t y && q y) xs) (filter (λ y. t y && q y) xs)))
      by rest true is true own = rest (with_new same known (f x)) grown
      by rest true is false own =
          let there : list_any (same (f x)) known ≡ true = sym (λ i. not (is i) || (own i || list_any (same (f x)) known)) ∙ parts.0 in
          let stays : with_new same known (f x) ≡ known = ap (λ (d : Bool). known ++ (if d then [] else f x ∷ [])) there ∙ append-nil known in
          ap (λ ys. fold (with_new same) ys (map f (filter q xs))) stays ∙ rest known parts.1
      by rest false is true own = rest known parts.1
      by rest false is false own = rest known parts.1

-- The uses of an acquisition.

-- they are those of the contexts before the event
pub in_uses-is : (past : List PlainEvent) (e : PlainEvent) → in_uses (past ++ e ∷ []) e ≡ uses_in (contexts past (task_of e)) (class_awaited e)
in_uses-is past (Acquire t l) = ap (λ cs. uses_in cs (class_awaited (Acquire t l))) (contexts-other past t (Acquire t l) refl refl)
in_uses-is past (Try t l) = refl
in_uses-is past (Nested t l n) = ap (λ cs. uses_in cs (class_awaited (Nested t l n))) (contexts-other past t (Nested t l n) refl refl)
in_uses-is past (Release t l) = refl
in_uses-is past (Enter t s) = refl
in_uses-is past (Exit t s) = refl
in_uses-is past (Enable t s) = refl
in_uses-is past (Disable t s) = refl
in_uses-is past (Begin t h s) = refl

-- The uses of what is held.

-- the use of what is held where the state is enabled
abbrev pub on_use : State → Acquisition → Use
on_use state one = record { class = one.class; bit = On state }

-- those of what one task holds, in all its frames
abbrev pub own_uses : List PlainEvent → List ℕ → State → List Use
own_uses now task state = map (on_use state) (if is_enabled now task state then held_by now task else [])

-- those of the other tasks
abbrev pub of_others : List ℕ → List Acquisition → List Acquisition
of_others task all = filter (λ one. not (is_of_task task one)) all

-- an event changes nothing of what other tasks hold
pub held-others : (past : List PlainEvent) (e : PlainEvent) → of_others (task_of e) (held (past ++ e ∷ [])) ≡ of_others (task_of e) (held past)
held-others past e = by e
  where
    acquired : (e : PlainEvent) (lock : PlainLock) → lock_acquired e ≡ Some lock → of_others (task_of e) (held (past ++ e ∷ [])) ≡ of_others (task_of e) (held past)
    acquired e lock is =
        ap (of_others (task_of e)) (held-acquires past e lock is)
        ∙ filter-append (λ one. not (bytes_eq (task_of e) one.key.task)) (held past) (acquisition_at past e lock ∷ [])
        ∙ ap (λ b. of_others (task_of e) (held past) ++ cond (not b) (acquisition_at past e lock ∷
        []) []) ((bytes_eq-Decides (task_of e) (task_of e)).1 refl)
        ∙ append-nil (of_others (task_of e) (held past))

    by : (e : PlainEvent) → of_others (task_of e) (held (past ++ e ∷ [])) ≡ of_others (task_of e) (held past)
    by (Acquire t l) = acquired (Acquire t l) l refl
    by (Try t l) = acquired (Try t l) l refl
    by (Nested t l n) = acquired (Nested t l n) l refl
    by (Release t l) =
        ap (of_others t) (held-releases past t l)
        ∙ filter-remove_other (has_key (record { task = t; frame = frame_of past t; lock = l })) (λ one. not (is_of_task t one))
        (λ one is. ap not ((bytes_eq-Decides t one.key.task).1 (ap (λ k. k.task) ((Decides-same_key (record { task = t; frame = frame_of past t; lock = l }) one.key).0 is)))) (held past)
    by (Enter t s) = ap (of_others t) (held-other past (Enter t s) refl refl)
    by (Exit t s) = ap (of_others t) (held-other past (Exit t s) refl refl)
    by (Enable t s) = ap (of_others t) (held-other past (Enable t s) refl refl)
    by (Disable t s) = ap (of_others t) (held-other past (Disable t s) refl refl)
    by (Begin t h s) = ap (of_others t) (held-other past (Begin t h s) refl refl)

-- what all uses of what is held pass, said of what is held
list_all_on : (p : Use → Bool) (now : List PlainEvent) (state : State) → list_all p (on_uses now state) ≡ list_all (λ one. not (is_enabled now one.key.task state) || p (on_use state one)) (held now)
list_all_on p now state = list_all-map p (on_use state) (filter (λ one. is_enabled now one.key.task state) (held now)) ∙ list_all-filter
    (λ one. p (on_use state one)) (λ one. is_enabled now one.key.task state) (held now)

-- What all uses standing before an event pass, those of what other tasks hold pass after it.
others_kept : (p : Use → Bool) (past : List PlainEvent) (e : PlainEvent) (state : State) → list_all p (on_uses past state) ≡ true → list_all
    (λ one. not (is_enabled (past ++ e ∷ []) one.key.task state) || (bytes_eq (task_of e) one.key.task || p (on_use state one))) (held (past ++ e ∷ [])) ≡ true
others_kept p past e state all =
    ap (λ (r : Acquisition → Bool). list_all r (held (past ++ e ∷ []))) (λ i one. same one (bytes_eq (task_of e) one.key.task) refl i)
    ∙ sym (list_all-filter (λ one. not (is_enabled past one.key.task state) || p (on_use state one)) (λ one. not (bytes_eq (task_of e) one.key.task)) (held (past ++ e ∷ [])))
    ∙ ap (list_all (λ one. not (is_enabled past one.key.task state) || p (on_use state one))) (held-others past e)
    ∙ list_all-part (λ one. not (is_enabled past one.key.task state) || p (on_use state one)) (λ one. not (bytes_eq (task_of e) one.key.task)) (held past) (sym (list_all_on p past state) ∙ all)
  where
    or_true : (b : Bool) → (b || true) ≡ true
    or_true true = refl
    or_true false = refl

    same : (one : Acquisition) (b : Bool) → bytes_eq (task_of e) one.key.task ≡ b → (not (is_enabled (past ++ e ∷ []) one.key.task state) ||
        (b || p (on_use state one))) ≡ (not (not b) || (not (is_enabled past one.key.task state) || p (on_use state one)))
    same one true is = or_true (not (is_enabled (past ++ e ∷ []) one.key.task state))
    same one false is =
        let other : bytes_eq one.key.task (task_of e) ≡ false = swapped one is in
        ap (λ b. not b || p (on_use state one)) (is_enabled-other past e one.key.task state other)
      where
        swapped : (one : Acquisition) → bytes_eq (task_of e) one.key.task ≡ false → bytes_eq one.key.task (task_of e) ≡ false
        swapped one is = by (bytes_eq one.key.task (task_of e)) refl
          where
            by : (b : Bool) → bytes_eq one.key.task (task_of e) ≡ b → b ≡ false
            by true eq = absurd (true≢false (sym ((bytes_eq-Decides (task_of e) one.key.task).1 (sym ((bytes_eq-Decides one.key.task (task_of e)).0 eq))) ∙ is))
            by false eq = refl

-- what of one task counts under the state
own_held : (now : List PlainEvent) (task : List ℕ) (state : State) → filter (λ one. bytes_eq task one.key.task && is_enabled now one.key.task state)
    (held now) ≡ (if is_enabled now task state then held_by now task else [])
own_held now task state = filter_where (λ one. bytes_eq task one.key.task) (λ one. is_enabled now one.key.task state) (is_enabled now task state)
    (λ one is. ap (λ t. is_enabled now t state) (sym ((bytes_eq-Decides task one.key.task).0 is))) (held now) ∙ by (is_enabled now task state)
  where
    by : (b : Bool) → filter (λ one. bytes_eq task one.key.task) (if b then held now else []) ≡ (if b then held_by now task else [])
    by true = refl
    by false = refl

-- The uses of what a task holds stand.
pub own_uses-stand : (p : Use → Bool) (now : List PlainEvent) (task : List ℕ) (state : State) → list_all p (on_uses now state) ≡ true → list_all p (own_uses now task state) ≡ true
own_uses-stand p now task state all =
    list_all-map p (on_use state) (if is_enabled now task state then held_by now task else [])
    ∙ ap (list_all (λ one. p (on_use state one))) (sym (own_held now task state))
    ∙ list_all-filter (λ one. p (on_use state one)) (λ one. bytes_eq task one.key.task && is_enabled now one.key.task state) (held now)
    ∙ list_all_mono (λ one. not (is_enabled now one.key.task state) || p (on_use state one)) (λ one. not (bytes_eq task one.key.task && is_enabled now one.key.task state) || p (on_use state one))
    (λ one h. weaker (bytes_eq task one.key.task) (is_enabled now one.key.task state) (p (on_use state one)) h) (held now) (sym (list_all_on p now state) ∙ all)
  where
    weaker : (t q r : Bool) → (not q || r) ≡ true → (not (t && q) || r) ≡ true
    weaker true q r h = h
    weaker false q r h = refl

-- The tests tell equal uses.

pub Decides-same_state : (a b : State) → Decides (same_state a b) (a ≡ b)
Decides-same_state Hard Hard = (λ h. refl, λ h. refl)
Decides-same_state Hard Soft = (λ h. absurd (true≢false (sym h)), λ h. cc)
Decides-same_state Soft Hard = (λ h. absurd (true≢false (sym h)), λ h. cc)
Decides-same_state Soft Soft = (λ h. refl, λ h. refl)

-- a set without bits has none
pub no_bit : (bit : Bit) → has_bit no_bits (usage_of bit) ≡ false
no_bit (In Hard) = refl
no_bit (In Soft) = refl
no_bit (On Hard) = refl
no_bit (On Soft) = refl

-- the bit of a set that was made of it
pub bit_of-usage : (bit : Bit) → bit_of (usage_of bit) ≡ bit
bit_of-usage (In Hard) = refl
bit_of-usage (In Soft) = refl
bit_of-usage (On Hard) = refl
bit_of-usage (On Soft) = refl

pub Decides-same_bit : (a b : Bit) → Decides (same_bit a b) (a ≡ b)
Decides-same_bit (In a) (In b) = (λ h. ap In ((Decides-same_state a b).0 h), λ h. let e : a ≡ b = cc in (Decides-same_state a b).1 e)
Decides-same_bit (In a) (On b) = (λ h. absurd (true≢false (sym h)), λ h. cc)
Decides-same_bit (On a) (In b) = (λ h. absurd (true≢false (sym h)), λ h. cc)
Decides-same_bit (On a) (On b) = (λ h. ap On ((Decides-same_state a b).0 h), λ h. let e : a ≡ b = cc in (Decides-same_state a b).1 e)

pub Decides-same_use : (a b : Use) → Decides (same_use a b) (a ≡ b)
Decides-same_use a b = Decides-like (same_use a b) (λ h. λ i. record { class = h.0 i; bit = h.1 i }) (λ h. (ap (λ u. u.class) h, ap (λ u. u.bit) h))
    (Decides-and (same_class a.class b.class) (same_bit a.bit b.bit) (same_class-Decides a.class b.class) (Decides-same_bit a.bit b.bit))

-- The uses of a trace, each once with its least line.

pub same_use_seen-alike : (a b : Seen Use) → same_use_seen a b ≡ true → (c : Seen Use) → same_use_seen a c ≡ same_use_seen b c
same_use_seen-alike a b is c = ap (λ u. same_use u c.what) ((Decides-same_use a.what b.what).0 is)

abbrev pub at_line : ℕ → Use → Seen Use
at_line line use_ = record { what = use_; line = line }

-- these uses are added at a line, each where it isn't there yet
abbrev pub with_uses : ℕ → List (Seen Use) → List Use → List (Seen Use)
with_uses line known us = fold (with_new same_use_seen) known (map (at_line line) us)

pub with_uses-append : (line : ℕ) (known : List (Seen Use)) (us vs : List Use) → with_uses line known (us ++ vs) ≡ with_uses line (with_uses line known us) vs
with_uses-append line known us vs = ap (fold (with_new same_use_seen) known) (map-append (at_line line) us vs)
    ∙ fold-append (with_new same_use_seen) known (map (at_line line) us) (map (at_line line) vs)

-- whether a use is there, at some line
abbrev pub is_known : List (Seen Use) → Use → Bool
is_known known u = list_any (λ s. same_use u s.what) known

pub known_more : (line : ℕ) (known : List (Seen Use)) (us vs : List Use) → list_all (is_known known) vs ≡ true → list_all (is_known (with_uses line known us)) vs ≡ true
known_more line known us vs all = list_all_mono (is_known known) (is_known (with_uses line known us))
    (λ u there. any_with_all same_use_seen (λ s. same_use u s.what) known (map (at_line line) us) there) vs all

-- where all uses that stood before are known, an event adds only uses of what its own task holds
pub with_on_uses : (past : List PlainEvent) (e : PlainEvent) (state : State) (line : ℕ) (known : List (Seen Use)) → list_all (is_known known)
    (on_uses past state) ≡ true → with_uses line known (on_uses (past ++ e ∷ []) state) ≡ with_uses line known (own_uses (past ++ e ∷ []) (task_of e) state)
with_on_uses past e state line known all =
    ap (fold (with_new same_use_seen) known) (map-map (at_line line) (on_use state) (filter (λ one. is_enabled (past ++ e ∷ []) one.key.task state) (held (past ++ e ∷ []))))
    ∙ fold_known same_use_seen (λ one. at_line line (on_use state one)) (λ one. bytes_eq (task_of e) one.key.task)
    (λ one. is_enabled (past ++ e ∷ []) one.key.task state) (held (past ++ e ∷ [])) known (others_kept (is_known known) past e state all)
    ∙ ap (λ those. fold (with_new same_use_seen) known (map (λ one. at_line line (on_use state one)) those)) (own_held (past ++ e ∷ []) (task_of e) state)
    ∙ sym (ap (fold (with_new same_use_seen) known) (map-map (at_line line) (on_use state) (if is_enabled (past ++ e ∷ []) (task_of e) state then held_by (past ++ e ∷ []) (task_of e) else [])))

-- The uses that stand at an event, where those of what is held may be left to `added`.
abbrev pub uses_with : List PlainEvent → PlainEvent → (State → List Use) → List Use
uses_with past e added = uses_in (contexts past (task_of e)) (class_awaited e) ++ (added Hard ++ added Soft)

with_uses_by : (past : List PlainEvent) (e : PlainEvent) (line : ℕ) (added : State → List Use) →
    ((state : State) (known : List (Seen Use)) → list_all (is_known known) (on_uses past state) ≡ true → with_uses line known
    (on_uses (past ++ e ∷ []) state) ≡ with_uses line known (added state)) → (known : List (Seen Use)) →
    ((state : State) → list_all (is_known known) (on_uses past state) ≡ true) → with_uses line known (uses_at past e) ≡ with_uses line known (uses_with past e added)
with_uses_by past e line added law known all =
    ap (λ us. with_uses line known (us ++ (on_uses (past ++ e ∷ []) Hard ++ on_uses (past ++ e ∷ []) Soft))) (in_uses-is past e)
    ∙ with_uses-append line known ins (on_uses (past ++ e ∷ []) Hard ++ on_uses (past ++ e ∷ []) Soft)
    ∙ with_uses-append line (with_uses line known ins) (on_uses (past ++ e ∷ []) Hard) (on_uses (past ++ e ∷ []) Soft)
    ∙ law Soft (with_uses line (with_uses line known ins) (on_uses (past ++ e ∷ []) Hard))
    (known_more line (with_uses line known ins) (on_uses (past ++ e ∷ []) Hard) (on_uses past Soft) (known_more line known ins (on_uses past Soft) (all Soft)))
    ∙ ap (λ ks. with_uses line ks (added Soft)) (law Hard (with_uses line known ins) (known_more line known ins (on_uses past Hard) (all Hard)))
    ∙ sym (with_uses-append line (with_uses line known ins) (added Hard) (added Soft))
    ∙ sym (with_uses-append line known ins (added Hard ++ added Soft))
  where
    ins : List Use
    ins = uses_in (contexts past (task_of e)) (class_awaited e)

-- What an event may newly count under a state: the acquisition that it is, and at an `enable`, an
-- `exit` or a `begin` all that its task holds.
abbrev pub newly_held : List PlainEvent → PlainEvent → List Acquisition
newly_held past (Acquire task lock) = acquisition_at past (Acquire task lock) lock ∷ []
newly_held past (Try task lock) = acquisition_at past (Try task lock) lock ∷ []
newly_held past (Nested task lock sub) = acquisition_at past (Nested task lock sub) lock ∷ []
newly_held past (Enable task state) = held_by past task
newly_held past (Exit task state) = held_by past task
newly_held past (Begin task hard soft) = held_by past task
newly_held past other = []

abbrev pub new_uses : List PlainEvent → PlainEvent → State → List Use
new_uses past e state = map (on_use state) (if is_enabled (past ++ e ∷ []) (task_of e) state then newly_held past e else [])

-- known uses add nothing
pub with_known : (line : ℕ) (known : List (Seen Use)) (us : List Use) → list_all (is_known known) us ≡ true → with_uses line known us ≡ known
with_known line known us all = all_known same_use_seen known (map (at_line line) us) (list_all-map (λ s. list_any (same_use_seen s) known) (at_line line) us ∙ all)

module _ (past : List PlainEvent) (state : State) (line : ℕ) (known : List (Seen Use)) (all : list_all (is_known known) (on_uses past state) ≡ true) where
  -- all that the task held, where it counted already, is known
  held_known : (task : List ℕ) → is_enabled past task state ≡ true → list_all (λ one. is_known known (on_use state one)) (held_by past task) ≡ true
  held_known task on =
      ap (λ (b : Bool). list_all (λ one. is_known known (on_use state one)) (if b then held_by past task else [])) (sym on)
      ∙ sym (list_all-map (is_known known) (on_use state) (if is_enabled past task state then held_by past task else []))
      ∙ own_uses-stand (is_known known) past task state all

  -- so nothing of it is added
  nothing_new : (those : List Acquisition) → list_all (λ one. is_known known (on_use state one)) those ≡ true → with_uses line known (map (on_use state) those) ≡ known
  nothing_new those there = with_known line known (map (on_use state) those) (list_all-map (is_known known) (on_use state) those ∙ there)

  if_nothing : (b : Bool) → known ≡ with_uses line known (map (on_use state) (if b then [] else []))
  if_nothing true = refl
  if_nothing false = refl

  new-acquires : (e : PlainEvent) (lock : PlainLock) → lock_acquired e ≡ Some lock → is_interrupt e ≡ false → with_uses line known
      (own_uses (past ++ e ∷ []) (task_of e) state) ≡ with_uses line known (map (on_use state)
      (if is_enabled (past ++ e ∷ []) (task_of e) state then acquisition_at past e lock ∷ [] else []))
  new-acquires e lock is quiet = by (is_enabled (past ++ e ∷ []) (task_of e) state) refl
    where
      those : held_by (past ++ e ∷ []) (task_of e) ≡ held_by past (task_of e) ++ acquisition_at past e lock ∷ []
      those = held_by-acquires past (task_of e) e lock is ∙ ap (λ (b : Bool). held_by past (task_of e) ++
          (if b then acquisition_at past e lock ∷ [] else [])) ((bytes_eq-Decides (task_of e) (task_of e)).1 refl)

      by : (b : Bool) → is_enabled (past ++ e ∷ []) (task_of e) state ≡ b → with_uses line known
          (map (on_use state) (if b then held_by (past ++ e ∷ []) (task_of e) else [])) ≡ with_uses line known
          (map (on_use state) (if b then acquisition_at past e lock ∷ [] else []))
      by true on =
          ap (λ ks. with_uses line known (map (on_use state) ks)) those
          ∙ ap (with_uses line known) (map-append (on_use state) (held_by past (task_of e)) (acquisition_at past e lock ∷ []))
          ∙ with_uses-append line known (map (on_use state) (held_by past (task_of e))) (on_use state (acquisition_at past e lock) ∷ [])
          ∙ ap (λ ks. with_uses line ks (on_use state (acquisition_at past e lock) ∷ []))
          (nothing_new (held_by past (task_of e)) (held_known (task_of e) (sym (is_enabled-quiet past e (task_of e) state quiet) ∙ on)))
      by false on = refl

  -- where nothing is newly held and what is enabled was, nothing is added
  new-none : (e : PlainEvent) → (is_enabled (past ++ e ∷ []) (task_of e) state ≡ true → is_enabled past (task_of e) state ≡ true) →
      (list_all (λ one. is_known known (on_use state one)) (held_by past (task_of e)) ≡ true → list_all (λ one. is_known known (on_use state one))
      (held_by (past ++ e ∷ []) (task_of e)) ≡ true) → with_uses line known (own_uses (past ++ e ∷ []) (task_of e) state) ≡ with_uses line known
      (map (on_use state) (if is_enabled (past ++ e ∷ []) (task_of e) state then [] else []))
  new-none e was less = by (is_enabled (past ++ e ∷ []) (task_of e) state) refl ∙ if_nothing (is_enabled (past ++ e ∷ []) (task_of e) state)
    where
      by : (b : Bool) → is_enabled (past ++ e ∷ []) (task_of e) state ≡ b → with_uses line known (map (on_use state) (if b then held_by (past ++ e ∷ []) (task_of e) else [])) ≡ known
      by true on = nothing_new (held_by (past ++ e ∷ []) (task_of e)) (less (held_known (task_of e) (was on)))
      by false on = refl

  -- Of what its own task holds an event adds no other uses than those that it may newly count.
  pub with_newly_held : (e : PlainEvent) → with_uses line known (own_uses (past ++ e ∷ []) (task_of e) state) ≡ with_uses line known (new_uses past e state)
  with_newly_held (Acquire t l) = new-acquires (Acquire t l) l refl refl
  with_newly_held (Try t l) = new-acquires (Try t l) l refl refl
  with_newly_held (Nested t l n) = new-acquires (Nested t l n) l refl refl
  with_newly_held (Release t l) =
      new-none (Release t l) (λ on. sym (is_enabled-quiet past (Release t l) t state refl) ∙ on)
      (λ there. ap (list_all (λ one. is_known known (on_use state one))) (held_by-releases past t l) ∙ list_all-remove_last
      (has_key (record { task = t; frame = frame_of past t; lock = l })) (λ one. is_known known (on_use state one)) (held_by past t) there)
  with_newly_held (Enter t s) = new-none (Enter t s) (enabled_before_enter past t s state)
      (λ there. ap (list_all (λ one. is_known known (on_use state one))) (held_by-other past t (Enter t s) refl refl) ∙ there)
  with_newly_held (Exit t s) = ap (λ ks. with_uses line known (map (on_use state) (if is_enabled (past ++ Exit t s ∷ []) t state then ks else []))) (held_by-other past t (Exit t s) refl refl)
  with_newly_held (Enable t s) = ap (λ ks. with_uses line known (map (on_use state) (if is_enabled (past ++ Enable t s ∷ []) t state then ks else []))) (held_by-other past t (Enable t s) refl refl)
  with_newly_held (Begin t h s) = ap (λ ks. with_uses line known (map (on_use state) (if is_enabled (past ++ Begin t h s ∷ []) t state then ks else []))) (held_by-other past t (Begin t h s) refl refl)
  with_newly_held (Disable t s) = new-none (Disable t s) (enabled_before_disable past t s state)
      (λ there. ap (list_all (λ one. is_known known (on_use state one))) (held_by-other past t (Disable t s) refl refl) ∙ there)

-- The uses that an event may newly show.
abbrev pub new_uses_at : List PlainEvent → PlainEvent → List Use
new_uses_at past e = uses_with past e (new_uses past e)

pub with_new_uses_at : (past : List PlainEvent) (e : PlainEvent) (line : ℕ) (known : List (Seen Use)) →
    ((state : State) → list_all (is_known known) (on_uses past state) ≡ true) → with_uses line known (uses_at past e) ≡ with_uses line known (new_uses_at past e)
with_new_uses_at past e line known all = with_uses_by past e line (new_uses past e)
    (λ state more there. with_on_uses past e state line more there ∙ with_newly_held past state line more there e) known all

-- what stands in the middle of a list stands in it
all_within : {Y : Type 0} (same : Y → Y → Bool) → ((y : Y) → same y y ≡ true) → (front ys back : List Y) → list_all (λ y. list_any (same y) (front ++ (ys ++ back))) ys ≡ true
all_within same itself front [] back = refl
all_within same itself front (y ∷ ys) back =
    and_from (list_any (same y) (front ++ (y ∷ (ys ++ back)))) (list_all (λ z. list_any (same z) (front ++ (y ∷ (ys ++ back)))) ys)
    (list_any-append (same y) front (y ∷ (ys ++ back)) ∙ or_right (list_any (same y) front) (same y y || list_any (same y) (ys ++ back))
    (or_left (same y y) (list_any (same y) (ys ++ back)) (itself y)))
    (ap (λ zs. list_all (λ z. list_any (same z) zs) ys) (sym (append_assoc front (y ∷ []) (ys ++ back))) ∙ all_within same itself (front ++ y ∷ []) ys back)

same_use-itself : (u : Use) → same_use u u ≡ true
same_use-itself u = (Decides-same_use u u).1 refl

-- the uses of what is held are among those that stand
on_uses_within : (past : List PlainEvent) (e : PlainEvent) (state : State) → list_all (λ u. list_any (same_use u) (uses_at past e)) (on_uses (past ++ e ∷ []) state) ≡ true
on_uses_within past e Hard = all_within same_use same_use-itself (in_uses (past ++ e ∷ []) e) (on_uses (past ++ e ∷ []) Hard) (on_uses (past ++ e ∷ []) Soft)
on_uses_within past e Soft =
    ap (λ us. list_all (λ u. list_any (same_use u) us) (on_uses (past ++ e ∷ []) Soft))
    (ap (λ us. in_uses (past ++ e ∷ []) e ++ (on_uses (past ++ e ∷ []) Hard ++ us)) (sym (append-nil (on_uses (past ++ e ∷ []) Soft))) ∙ sym
    (append_assoc (in_uses (past ++ e ∷ []) e) (on_uses (past ++ e ∷ []) Hard) (on_uses (past ++ e ∷ []) Soft ++ [])))
    ∙ all_within same_use same_use-itself (in_uses (past ++ e ∷ []) e ++ on_uses (past ++ e ∷ []) Hard) (on_uses (past ++ e ∷ []) Soft) []

-- after each position, the uses of what is held were seen
pub on_uses-seen : (state : State) (all : List Position) → list_all (is_known (seen uses_at all)) (on_uses (events all) state) ≡ true
on_uses-seen state all = by_pushes (λ ps. list_all (is_known (seen uses_at ps)) (on_uses (events ps) state) ≡ true) (none state) step all
  where
    none : (state : State) → list_all (is_known []) (on_uses [] state) ≡ true
    none Hard = refl
    none Soft = refl

    step : (ps : List Position) (p : Position) → list_all (is_known (seen uses_at ps)) (on_uses (events ps) state) ≡ true → list_all
        (is_known (seen uses_at (ps ++ p ∷ []))) (on_uses (events (ps ++ p ∷ [])) state) ≡ true
    step ps p h = (λ i. list_all (is_known (seen-push uses_at ps p i)) (on_uses (events-push ps p i) state)) ∙ by p.says
      where
        by : (says : Result PlainEvent LineFault) → list_all (is_known (seen uses_at ps ++ seen_at uses_at (events ps) p.line says))
            (on_uses (events ps ++ Rattle.std.specs.List.cons_option (Rattle.ld_rules.specs.Outcome.event_said says) []) state) ≡ true
        by (Err fault) = (λ i. list_all (is_known (append-nil (seen uses_at ps) i)) (on_uses (append-nil (events ps) i) state)) ∙ h
        by (Ok e) =
            list_all_mono (λ u. list_any (same_use u) (uses_at (events ps) e)) (is_known (seen uses_at ps ++ map (at_line p.line) (uses_at (events ps) e)))
            (λ u there. list_any-append (λ s. same_use u s.what) (seen uses_at ps) (map (at_line p.line) (uses_at (events ps) e))
            ∙ or_right (is_known (seen uses_at ps) u) (list_any (λ s. same_use u s.what) (map (at_line p.line) (uses_at (events ps) e)))
            (list_any-map (at_line p.line) (λ s. same_use u s.what) (uses_at (events ps) e) ∙ there))
            (on_uses (events ps ++ e ∷ []) state) (on_uses_within (events ps) e state)

-- the uses seen, each added to these where it isn't there yet, in order of first line
abbrev pub uses_from : List (Seen Use) → List Position → List (Seen Use)
uses_from known all = fold (with_new same_use_seen) known (seen uses_at all)

pub on_uses-from : (known : List (Seen Use)) (state : State) (all : List Position) → list_all (is_known (uses_from known all)) (on_uses (events all) state) ≡ true
on_uses-from known state all = list_all_mono (is_known (seen uses_at all)) (is_known (uses_from known all))
    (λ u there. any_of_added same_use_seen same_use_seen-alike (at_line 0 u) known (seen uses_at all) there) (on_uses (events all) state) (on_uses-seen state all)

-- What one more position adds: of the uses that it may newly show those that aren't there yet, with its
-- line.
abbrev pub with_said_new : List (Seen Use) → List PlainEvent → ℕ → Result PlainEvent LineFault → List (Seen Use)
with_said_new known past line (Ok event) = with_uses line known (new_uses_at past event)
with_said_new known past line (Err fault) = known

pub uses_from-push : (known : List (Seen Use)) (all : List Position) (p : Position) → uses_from known (all ++ p ∷ []) ≡ with_said_new (uses_from known all) (events all) p.line p.says
uses_from-push known all p =
    ap (fold (with_new same_use_seen) known) (seen-push uses_at all p)
    ∙ fold-append (with_new same_use_seen) known (seen uses_at all) (seen_at uses_at (events all) p.line p.says)
    ∙ by p.says
  where
    by : (says : Result PlainEvent LineFault) → fold (with_new same_use_seen) (uses_from known all) (seen_at uses_at (events all) p.line says) ≡ with_said_new
        (uses_from known all) (events all) p.line says
    by (Ok e) = with_new_uses_at (events all) e p.line (uses_from known all) (λ state. on_uses-from known state all)
    by (Err fault) = refl
