-- What pages have left, with an item in front.
use Rattle.std.proofs.Common.{ℕ, ◌≡◌, ◌+◌, ◌<◌, ◌++◌, ◌⊎◌, inl, inr, List, [], ◌∷◌, Option, Some, None, MatchOption, arith, get_or, length, subst, sym}
use Rattle.std.proofs.lemmas.Bool.{cases_eq}
use Rattle.std.proofs.lemmas.List.{get_or_append_left, get_or_push}
use Rattle.ld_pages.specs.declared.events.Events.{Events}
use Rattle.ld_pages.specs.declared.cursor.Fault.{Fault}
use Rattle.ld_pages.specs.declared.cursor.Item.{Item}
use Rattle.ld_pages.specs.Events.{Continues, Ends, Gives}
use Rattle.ld_pages.specs.Pages.{time_of}
use Rattle.ld_merge.specs.declared.entry.Entry.{Entry}
use Rattle.ld_merge.specs.declared.head.Head.{Head}
use Rattle.ld_merge.specs.Heads.{Fronts, IsBehind, IsEnd, IsHead, IsLeastOf, IsOf, IsTimed}
use Rattle.ld_merge.specs.Order.{IsAfter}

-- an item in front of what follows it
pub fronted : (old new : Events) (i : Item) → Continues old i new → IsOf old (record { events = new; item = Some i })
fronted old new i go = λ is f left. subst (λ xs. Gives old xs f) (sym left.1) (go.first left.0 f left.2)

-- what has an item in front, and then gives others
pub fronts : (item : Option Item) (events : Events) (i : Item) (is js : List Item) (f : Option Fault)
    → item ≡ Some i → is ≡ i ∷ js → Gives events js f → Fronts item events is f
fronts item events i is js f some cut rest = subst (λ x. Fronts x events is f) (sym some) (js, cut, rest)

-- pages with no item in front have nothing left
pub nothing_left : (k : ℕ) (item : Option Item) (events : Events) → IsLeastOf None k item → IsEnd item events → Fronts item events [] None
nothing_left k None events none at_end = at_end
nothing_left k (Some i) events none at_end = absurd none

-- the next item of a processor is behind the one before it
pub next_behind : (e : Entry) (item : Option Item) (before time : ℕ) → time_of e.item ≡ before → IsTimed before item time
    → IsBehind (Some e) e.processor item
next_behind e None before time is timed = tt
next_behind e (Some i) before time is timed = record { no_later = omega (arith, timed.0, timed.1); tie = λ same. omega arith }

pub timed_from : (since : ℕ) (item : Option Item) (time : ℕ) → IsTimed since item time → IsTimed 0 item time
timed_from since None time timed = tt
timed_from since (Some i) time timed = (timed.0, omega arith)

-- the time of an item in front
pub time_in_front : (item : Option Item) (i : Item) (time : ℕ) → item ≡ Some i → IsTimed 0 item time → time_of i ≡ time
time_in_front item i time some timed = (subst (λ x. IsTimed 0 x time) some timed).0

pub after_in_front : (last : Option Entry) (e : Entry) (item : Option Item) → item ≡ Some e.item → IsBehind last e.processor item → IsAfter last e
after_in_front last e item some behind = subst (λ x. IsBehind last e.processor x) some behind

-- What holds of each of n heads, and of one that is pushed, holds of all.
pub pushed : (P : ℕ → Head → Type 0) (xs : List Head) (x : Head) (n : ℕ) → length xs ≡ n
    → ((k : ℕ) (d : Head) → k < n → P k (get_or xs k d)) → P n x
    → (k : ℕ) (d : Head) → k < n + 1 → P k (get_or (xs ++ x ∷ []) k d)
pushed P xs x n len below here k d lt = by (cases_eq k n)
  where
    by : (k ≡ n) ⊎ (k ≡ n → ⊥) → P k (get_or (xs ++ x ∷ []) k d)
    by (inl same) = subst (λ j. P j (get_or (xs ++ x ∷ []) j d)) (sym same) (subst (λ y. P n y) (sym (get_or_push xs x d n len)) here)
    by (inr other) =
        let small : k < n = omega (arith, other) in
        let within : k < length xs = omega arith in
        subst (λ y. P k y) (sym (get_or_append_left xs (x ∷ []) d k within)) (below k d small)

-- what follows a call for the next item
pub next_left : (old new : Events) (item : Option Item) → MatchOption item (Ends old new) (λ i. Continues old i new)
    → IsOf old (record { events = new; item = item })
next_left old new None ends = ends.rest
next_left old new (Some i) go = fronted old new i go

pub next_timed : (old new : Events) (item : Option Item) → MatchOption item (Ends old new) (λ i. Continues old i new)
    → IsTimed old.cursor.time item new.cursor.time
next_timed old new None ends = tt
next_timed old new (Some i) go = (go.timed, go.later)

pub next_end : (old new : Events) (item : Option Item) → MatchOption item (Ends old new) (λ i. Continues old i new) → IsEnd item new
next_end old new None ends = ends.at_end
next_end old new (Some i) go = tt

pub behind_none : (k : ℕ) (item : Option Item) → IsBehind None k item
behind_none k None = tt
behind_none k (Some i) = tt

-- One processor more has its first item in front.
pub more_left : (sources : List Events) (xs ys : List Head) (n : ℕ) (x : Head) (events : Events) → ys ≡ xs ++ x ∷ [] → length xs ≡ n
    → ((e : Events) → events ≡ get_or sources n e) → IsOf events x
    → ((k : ℕ) (d : Head) → k < n → (e : Events) → IsOf (get_or sources k e) (get_or xs k d))
    → (k : ℕ) (d : Head) → k < n + 1 → (e : Events) → IsOf (get_or sources k e) (get_or ys k d)
more_left sources xs ys n x events same len at of below = λ k d lt.
    subst (λ hs. (e : Events) → IsOf (get_or sources k e) (get_or hs k d)) (sym same)
    (pushed (λ j h. (e : Events) → IsOf (get_or sources j e) h) xs x n len below
    (λ e. subst (λ v. IsOf v x) (at e) of) k d lt)

pub more_heads : (xs ys : List Head) (n : ℕ) (x : Head) (since : ℕ) → ys ≡ xs ++ x ∷ [] → length xs ≡ n
    → IsTimed since x.item x.events.cursor.time → IsEnd x.item x.events
    → ((k : ℕ) (d : Head) → k < n → IsHead None k (get_or xs k d))
    → (k : ℕ) (d : Head) → k < n + 1 → IsHead None k (get_or ys k d)
more_heads xs ys n x since same len timed at_end below = λ k d lt.
    subst (λ hs. IsHead None k (get_or hs k d)) (sym same)
    (pushed (λ j h. IsHead None j h) xs x n len below
    (record { timed = timed_from since x.item x.events.cursor.time timed; behind = behind_none n x.item; at_end = at_end })
    k d lt)
