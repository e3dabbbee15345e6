-- Each kind of step keeps the running rule.
use Rattle.std.proofs.Common.{◌≡◌, ℕ, ◌+◌, ◌%◌, ◌^◌, ◌<◌, ◌≤◌, List, [], ◌∷◌, ◌++◌, All, Bool, true, false, Some}
use Rattle.std.proofs.Common.{None, if◌then◌else◌, set, get_or, min, count_by, nat_eq, nat_lt, refl, sym, ap, subst, ◌∙◌, arith, length-set, get_or-set_same}
use Rattle.std.proofs.lemmas.Bool.Decides.{nat_tests}
use Rattle.std.proofs.lemmas.List.Elements.{All-set, All-push, All-weaker}
use Rattle.std.proofs.lemmas.List.Sums.{sum_by_push}
use Rattle.std.specs.List.{sum_by}
use mathlib.Core.Option.{some}
use lib.ListN.{get_elem?}
use Rattle.atomic_table.proofs.Lists.{set_else}
use Rattle.atomic_table.specs.Table.{State, Me, keeps, Allows, Splits, Joins, Final, Seen}
use Rattle.ld_tickets.proofs.Places.{read_at, sum_by_put, at_le_sum_by, All-at, sum_by-map, sum_by-le-All, all_in_one, times_push, times-append, once_more, all_below}
use Rattle.ld_tickets.specs.declared.rule.MadeWith.{MadeWith}
use Rattle.ld_tickets.specs.declared.rule.View.{View}
use Rattle.ld_tickets.specs.Draw.{once_below}
use Rattle.ld_tickets.specs.Rule.{IsSound, IsRunning, Holds, DrawsGiven, Draws, one_seat_less, one_seat, together, spent}

abbrev seats_of : View → ℕ
seats_of v = v.seats

abbrev ended_of : View → ℕ
ended_of v = v.ended

-- how often x stands in the numbers of a view
abbrev times : ℕ → View → ℕ
times x v = count_by (nat_eq x) v.drawn

abbrev numbers_of : View → List ℕ
numbers_of v = v.drawn

module _ (o : MadeWith) (word : ℕ) (views : List View) (r : IsRunning o word views) where
  numbers : (x : ℕ) → sum_by (times x) views ≡ once_below x (min word o.n)
  numbers x = sym (sum_by-map (count_by (nat_eq x)) numbers_of views) ∙ r.numbers x

  -- no more seats end than there are
  few_ended : sum_by ended_of views ≤ 16
  few_ended =
      let ends : All (λ v. v.ended ≤ v.seats) views = All-weaker (IsSound o) (λ v. v.ended ≤ v.seats) (λ v s. s.ends) views r.sound in
      omega (arith, sum_by-le-All ended_of seats_of views ends, r.seats, r.few.1)

  -- so the next state fits the word
  pub fits : (word + 1) % 18446744073709551616 ≡ word + 1
  fits = omega (arith, few_ended, r.bound, r.few.0)

  module _ (id : ℕ) (v : View) (at : get_elem? views id ≡ some v) where
    sound : IsSound o v
    sound = All-at (IsSound o) views id v at r.sound

    pub draws_number : 0 < v.seats → word < o.n → IsRunning o (word + 1) (set views id (record v { drawn = v.drawn ++ word ∷ [] }))
    draws_number some_seat room =
        let w : View = record v { drawn = v.drawn ++ word ∷ [] } in
        let seats = sum_by_put seats_of views id v w at in
        let ended = sum_by_put ended_of views id v w at in
        let now : min word o.n ≡ word = omega arith in
        let next : min (word + 1) o.n ≡ word + 1 = omega arith in
        record {
          few = r.few;
          seats = omega (arith, seats, r.seats);
          sound = All-set (IsSound o) views id w (record { agrees = sound.agrees; ends = sound.ends; idle = λ none. absurd (omega arith) }) r.sound;
          numbers = λ x.
              let put = sum_by_put (times x) views id v w at in
              let old : sum_by (times x) views ≡ once_below x word = numbers x ∙ ap (once_below x) now in
              sum_by-map (count_by (nat_eq x)) numbers_of (set views id w)
              ∙ (omega (arith, put, times_push x word v.drawn, old, once_more x word) ∙ ap (once_below x) (sym next));
          over = λ some_ended. absurd (omega (arith, r.over (omega (arith, some_ended, ended))));
          bound = omega (arith, ended);
        }

    -- the number is above all that the view has
    pub draws_above : word < o.n → All (λ other. other < word) v.drawn
    draws_above room =
        let now : min word o.n ≡ word = omega arith in
        all_below word v.drawn (λ x. omega (arith, at_le_sum_by (times x) views id v at, numbers x ∙ ap (once_below x) now))

    pub draws_none : v.ended < v.seats → o.n ≤ word → IsRunning o (word + 1) (set views id (record v { ended = v.ended + 1 }))
    draws_none open_seat over =
        let w : View = record v { ended = v.ended + 1 } in
        let seats = sum_by_put seats_of views id v w at in
        let ended = sum_by_put ended_of views id v w at in
        let now : min word o.n ≡ o.n = omega arith in
        let next : min (word + 1) o.n ≡ o.n = omega arith in
        record {
          few = r.few;
          seats = omega (arith, seats, r.seats);
          sound = All-set (IsSound o) views id w (record { agrees = sound.agrees; ends = omega arith; idle = sound.idle }) r.sound;
          numbers = λ x.
              let put = sum_by_put (times x) views id v w at in
              let old : sum_by (times x) views ≡ once_below x o.n = numbers x ∙ ap (once_below x) now in
              sum_by-map (count_by (nat_eq x)) numbers_of (set views id w) ∙ (omega (arith, put, old) ∙ ap (once_below x) (sym next));
          over = λ some_ended. omega arith;
          bound = omega (arith, ended, r.bound);
        }

    draws_by : v.seats ≡ 1 → v.ended ≡ 0 → (b : Bool) → nat_lt word v.n ≡ b
        → (w : View) × IsRunning o (word + 1) (set views id w) × DrawsGiven v (if b then Some word else None) w
    draws_by one open_seat true is =
        let n : v.n ≡ o.n = (sound.agrees (omega arith)).0 in
        let room : word < o.n = grind (arith, nat_tests) in
        (record v { drawn = v.drawn ++ word ∷ [] }, draws_number (omega arith) room, (refl, draws_above room))
    draws_by one open_seat false is =
        let n : v.n ≡ o.n = (sound.agrees (omega arith)).0 in
        let over : o.n ≤ word = grind (arith, nat_tests) in
        (record v { ended = v.ended + 1 }, draws_none (omega arith) over, refl)

-- the running rule, of a table whose word has changed
module _ (o : MadeWith) (s : State (Unit {0}) View) (h : Holds o s) where
  placed : (state : ℕ) (views : List View) → IsRunning o state views → Holds o (record s { words = set s.words 0 state; views = views })
  placed state views r =
      (length-set s.words 0 state ∙ h.0, subst (λ n. IsRunning o n views) (sym (get_or-set_same s.words 0 state 0 (omega (arith, h.0)))) r)

-- a draw keeps the rule
pub draws_at : (o : MadeWith) (slots id : ℕ) (me : Me (Unit {0}) View) → me.0.seats ≡ 1 → me.0.ended ≡ 0
    → Allows (Holds o) slots id me 0 (λ n. (n + 1) % 2 ^ 64) (λ found after. Draws me.0 found after.0 × (after.1 ≡ me.1))
draws_at o slots id me one open_seat s h _ at _ =
    let word : ℕ = get_or s.words 0 0 in
    let d = draws_by o word s.views h.1 id me.0 at one open_seat (nat_lt word me.0.n) refl in
    let next = sym (fits o word s.views h.1) in (
      d.0,
      keeps,
      tt,
      subst (λ n. Holds o (record s { words = set s.words 0 n; views = set s.views id d.0 })) next (placed o s h (word + 1) (set s.views id d.0) d.1),
      (d.2, refl),
    )

-- a split keeps the rule
pub splits : (o : MadeWith) (id : ℕ) (v : View) → 1 < v.seats → v.ended ≡ 0 → Splits (Holds o) id v (one_seat_less v) (one_seat v)
splits o id v more open_seats s h at =
    let r = h.1 in
    let left : View = one_seat_less v in
    let right : View = one_seat v in
    let views : List View = set s.views id left in
    let is : IsSound o v = All-at (IsSound o) s.views id v at r.sound in
    let seats = sum_by_put seats_of s.views id v left at in
    let ended = sum_by_put ended_of s.views id v left at in
    let seats' = sum_by_push seats_of views right in
    let ended' = sum_by_push ended_of views right in (
      h.0,
      record {
        few = r.few;
        seats = omega (arith, seats, seats', r.seats);
        sound = All-push (IsSound o) views right
            (All-set (IsSound o) s.views id left (record { agrees = λ _. is.agrees (omega arith); ends = omega arith; idle = λ none. absurd (omega arith) }) r.sound)
            (record { agrees = λ _. is.agrees (omega arith); ends = omega arith; idle = λ _. refl });
        numbers = λ x.
            let put = sum_by_put (times x) s.views id v left at in
            let put' = sum_by_push (times x) views right in
            sum_by-map (count_by (nat_eq x)) numbers_of (views ++ right ∷ []) ∙ omega (arith, put, put', numbers o _ s.views r x);
        over = λ some_ended. r.over (omega (arith, some_ended, ended, ended'));
        bound = omega (arith, ended, ended', r.bound);
      },
    )

-- a join keeps the rule
pub joins : (o : MadeWith) (id : ℕ) (v : View) (other : ℕ) (w : View) → 0 < v.seats → Joins (Holds o) id v other w (together v w) spent
joins o id v other w some_seat s h at apart at_other =
    let r = h.1 in
    let both : View = together v w in
    let views : List View = set s.views id both in
    let views' : List View = set views other spent in
    let is : IsSound o v = All-at (IsSound o) s.views id v at r.sound in
    let is' : IsSound o w = All-at (IsSound o) s.views other w (sym (set_else s.views id other both apart) ∙ at_other) r.sound in
    let seats = sum_by_put seats_of s.views id v both at in
    let ended = sum_by_put ended_of s.views id v both at in
    let seats' = sum_by_put seats_of views other w spent at_other in
    let ended' = sum_by_put ended_of views other w spent at_other in
    let ends : v.ended + w.ended ≤ v.seats + w.seats = omega (arith, is.ends, is'.ends) in (
      h.0,
      record {
        few = r.few;
        seats = omega (arith, seats, seats', r.seats);
        sound = All-set (IsSound o) views other spent (record { agrees = λ none. absurd (omega arith); ends = omega arith; idle = λ _. refl })
            (All-set (IsSound o) s.views id both (record { agrees = λ _. is.agrees some_seat; ends = ends; idle = λ none. absurd (omega arith) }) r.sound);
        numbers = λ x.
            let put = sum_by_put (times x) s.views id v both at in
            let put' = sum_by_put (times x) views other w spent at_other in
            sum_by-map (count_by (nat_eq x)) numbers_of views' ∙ omega (arith, put, put', times-append x v.drawn w.drawn, numbers o _ s.views r x);
        over = λ some_ended. r.over (omega (arith, some_ended, ended, ended'));
        bound = omega (arith, ended, ended', r.bound);
      },
    )

-- what the last seat tells, once all others were joined to it
pub settles : (o : MadeWith) (id : ℕ) (v : View) (words : List ℕ) (slots : List (Unit {0})) (state : ℕ) → Final (Seen (Holds o) id v) words slots
    → v.seats ≡ o.seats → get_elem? words 0 ≡ some state
    → ((x : ℕ) → count_by (nat_eq x) v.drawn ≡ once_below x (min state o.n)) × (0 < v.ended → o.n ≤ state)
settles o id v words slots state f whole found =
    let s = f.0 in
    let r : IsRunning o (get_or s.words 0 0) s.views = f.1.0.1 in
    let at : get_elem? s.views id ≡ some v = f.1.1 in
    let is : get_or s.words 0 0 ≡ state = ap (λ ws. get_or ws 0 0) f.2 ∙ (read_at words 0 state found).1 0 in
    let all : sum_by seats_of s.views ≡ v.seats = r.seats ∙ sym whole in (
      (λ x.
          let idle : All (λ u. u.seats ≡ 0 → times x u ≡ 0) s.views =
          All-weaker (IsSound o) (λ u. u.seats ≡ 0 → times x u ≡ 0) (λ u i none. ap (count_by (nat_eq x)) (i.idle none)) s.views r.sound in
          sym (all_in_one (times x) seats_of s.views id v at idle all) ∙ (numbers o _ s.views r x ∙ ap (λ n. once_below x (min n o.n)) is)),
      λ some_ended. omega (arith, is, r.over (omega (arith, some_ended, at_le_sum_by ended_of s.views id v at))),
    )
