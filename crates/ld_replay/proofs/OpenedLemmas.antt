-- What is open after one more event keeps its line.
use Rattle.std.proofs.Common.{◌≡◌, ◌+◌, ◌≤◌, ◌<◌, ◌++◌, ◌∷◌, [], List, ℕ, Bool, true, false, ltb, length, map, filter_map, Option, Some, None, Ok, get_or, refl, arith, if◌then◌else◌}
use Rattle.std.proofs.lemmas.Bool.{and_parts, lt-ltb, ltb-true}
use Rattle.std.proofs.lemmas.List.{get_or_append_left}
use Rattle.std.proofs.lemmas.List.Elements.{filter_map-append}
use Rattle.std.specs.List.{cons_option, enumerate_from, list_all}
use Rattle.std.specs.Option.{option_map}
use Rattle.ld_trace.specs.Events.{PlainEvent, Position}
use Rattle.ld_rules.specs.Open.{Opening, is_open, opening_at, openings}
use Rattle.ld_rules.specs.Outcome.{event_said, events}
use Rattle.ld_replay.specs.HeldAt.{event_lines}

-- it stands at a place below n
abbrev pub is_below : {X K : Type 0} → ℕ → Opening X K → Bool
is_below n o = ltb o.place n

module _ {X K : Type 0} (same : K → K → Bool) (opened closed : X → Option K) where
  -- what is open stands in the list
  pub open-below : (xs : List X) → list_all (is_below (length xs)) (openings same opened closed xs) ≡ true
  open-below xs = from xs 0 xs (omega arith)
    where
      from : (all : List X) (n : ℕ) (ys : List X) → n + length ys ≤ length all → list_all (is_below (length all))
          (filter_map (λ p. opening_at same opened closed all p.0 p.1 (opened p.1)) (enumerate_from n ys)) ≡ true
      from all n [] within = refl
      from all n (y ∷ ys) within = at (opened y) (from all (n + 1) ys (omega arith))
        where
          at : (o : Option K) → list_all (is_below (length all)) (filter_map (λ p. opening_at same opened closed all p.0 p.1 (opened p.1)) (enumerate_from (n + 1) ys)) ≡ true →
              list_all (is_below (length all)) (cons_option (opening_at same opened closed all n y o)
              (filter_map (λ p. opening_at same opened closed all p.0 p.1 (opened p.1)) (enumerate_from (n + 1) ys))) ≡ true
          at None rest = rest
          at (Some key) rest = here (is_open same opened closed all n key)
            where
              here : (b : Bool) → list_all (is_below (length all)) (cons_option (if b then Some (record { place = n; element = y; key = key }) else None)
                  (filter_map (λ p. opening_at same opened closed all p.0 p.1 (opened p.1)) (enumerate_from (n + 1) ys))) ≡ true
              here true = let low : ltb n (length all) ≡ true = lt-ltb n (length all) (omega arith) in rw low rest
              here false = rest

-- what is read of the lines of what stands below their end stays
pub lines-kept : {X K B : Type 0} (g : Opening X K → ℕ → B) (lines : List ℕ) (line : ℕ) (os : List (Opening X K)) → list_all (is_below (length lines)) os ≡ true →
    map (λ o. g o (get_or (lines ++ line ∷ []) o.place 0)) os ≡ map (λ o. g o (get_or lines o.place 0)) os
lines-kept g lines line [] all = refl
lines-kept g lines line (o ∷ os) all =
    let parts = and_parts (is_below (length lines) o) (list_all (is_below (length lines)) os) all in
    let low : o.place < length lines = ltb-true o.place (length lines) parts.0 in
    let here : get_or (lines ++ line ∷ []) o.place 0 ≡ get_or lines o.place 0 = get_or_append_left lines (line ∷ []) 0 o.place low in
    (λ i. g o (here i) ∷ lines-kept g lines line os parts.1 i)

-- an event more, and its line
pub events-more : (past : List Position) (event : PlainEvent) (line : ℕ) → events (past ++ record { line = line; says = Ok event } ∷ []) ≡ events past ++ event ∷ []
events-more past event line = filter_map-append (λ p. event_said p.says) past (record { line = line; says = Ok event } ∷ [])

pub lines-more : (past : List Position) (event : PlainEvent) (line : ℕ) → event_lines (past ++ record { line = line; says = Ok event } ∷ []) ≡ event_lines past ++ line ∷ []
lines-more past event line = filter_map-append (λ p. option_map (λ e. p.line) (event_said p.says)) past (record { line = line; says = Ok event } ∷ [])

-- each event has its line
pub lines-even : (past : List Position) → length (event_lines past) ≡ length (events past)
lines-even [] = refl
lines-even (p ∷ past) = by (event_said p.says) (lines-even past)
  where
    by : (o : Option PlainEvent) → length (event_lines past) ≡ length (events past) → length (cons_option (option_map (λ e. p.line) o) (event_lines past)) ≡ length (cons_option o (events past))
    by None rest = rest
    by (Some event) rest = omega arith
