-- Lines and positions by their numbers, from a number on.
use Rattle.std.proofs.Common.{◌≡◌, ◌+◌, ◌≤◌, ◌<◌, ◌∷◌, [], List, ℕ, Bool, true, false, eqb, ltb, cond, map, filter, filter_map, Some, None, Ok, Err, refl, ap, arith}
use Rattle.std.proofs.lemmas.Bool.{eq-eqb, ne_eqb, le-ltb}
use Rattle.std.specs.List.{cons_option, enumerate_from}
use Rattle.ld_trace.specs.Lines.{text_of}
use Rattle.ld_trace.specs.Events.{Said, position_of, said_by}
use Rattle.ld_rules.specs.Outcome.{events}
use Rattle.ld_replay.specs.HeldAt.{before_line, events_at}
use Rattle.ld_replay.specs.Inner.Replay.{event_of, lines_from, positions_from}

-- no line passes a test that no number from its first on passes
none_from : (test : ℕ → Bool) (n : ℕ) (all : List (List ℕ)) → ((m : ℕ) → n ≤ m → test m ≡ false) → filter (λ p. test p.0) (enumerate_from n all) ≡ []
none_from test n [] none = refl
none_from test n (line ∷ all) none = rw (none n (omega arith)) (none_from test (n + 1) all (λ m low. none m (omega arith)))

no_position : (test : ℕ → Bool) (n : ℕ) (all : List (List ℕ)) → ((m : ℕ) → n ≤ m → test m ≡ false) → filter (λ p. test p.line) (positions_from n all) ≡ []
no_position test n [] none = refl
no_position test n (line ∷ all) none = by (said_by (text_of line)) (no_position test (n + 1) all (λ m low. none m (omega arith)))
  where
    by : (said : Said) → filter (λ p. test p.line) (positions_from (n + 1) all) ≡ [] → filter (λ p. test p.line) (cons_option (position_of n said) (positions_from (n + 1) all)) ≡ []
    by (Ok None) rest = rest
    by (Ok (Some event)) rest = rw (none n (omega arith)) rest
    by (Err fault) rest = rw (none n (omega arith)) rest

-- the line with a number is the first, is behind it, or isn't there
pub line-here : (n : ℕ) (first : List ℕ) (others : List (List ℕ)) (line : ℕ) → n ≡ line → lines_from n (first ∷ others) line ≡ first ∷ []
line-here n first others line same =
    let here : eqb n line ≡ true = eq-eqb n line same in
    rw here (ap (λ ps. first ∷ map (λ p. p.1) ps) (none_from (λ m. eqb m line) (n + 1) others (λ m low. ne_eqb m line (λ e. omega arith))))

pub line-behind : (n : ℕ) (first : List ℕ) (others : List (List ℕ)) (line : ℕ) → n < line → lines_from n (first ∷ others) line ≡ lines_from (n + 1) others line
line-behind n first others line low =
    let other : eqb n line ≡ false = ne_eqb n line (λ e. omega arith) in
    rw other refl

pub line-above : (n : ℕ) (all : List (List ℕ)) (line : ℕ) → line < n → lines_from n all line ≡ []
line-above n all line low = ap (map (λ p. p.1)) (none_from (λ m. eqb m line) n all (λ m at. ne_eqb m line (λ e. omega arith)))

-- the events at a line are what the lines with its number say
pub events-at : (n : ℕ) (all : List (List ℕ)) (line : ℕ) → events_at (positions_from n all) line ≡ filter_map (λ found. event_of (said_by (text_of found))) (lines_from n all line)
events-at n [] line = refl
events-at n (first ∷ all) line = by (said_by (text_of first)) refl (eqb n line) refl (events-at (n + 1) all line)
  where
    by : (said : Said) → said_by (text_of first) ≡ said → (b : Bool) → eqb n line ≡ b → events_at (positions_from (n + 1) all) line ≡ filter_map
        (λ found. event_of (said_by (text_of found))) (lines_from (n + 1) all line) → events_at (cons_option (position_of n said) (positions_from (n + 1) all)) line ≡ filter_map
        (λ found. event_of (said_by (text_of found))) (map (λ p. p.1) (cond b ((n, first) ∷ filter (λ p. eqb p.0 line) (enumerate_from (n + 1) all)) (filter (λ p. eqb p.0 line) (enumerate_from (n + 1) all))))
    by (Ok None) says true is rest = rw says rest
    by (Ok None) says false is rest = rest
    by (Ok (Some event)) says true is rest = rw (says, is) (ap (λ es. event ∷ es) rest)
    by (Ok (Some event)) says false is rest = rw is rest
    by (Err fault) says true is rest = rw (says, is) rest
    by (Err fault) says false is rest = rw is rest

pub before-none : (n : ℕ) (all : List (List ℕ)) (line : ℕ) → line ≤ n → before_line (positions_from n all) line ≡ []
before-none n all line low = no_position (λ m. ltb m line) n all (λ m at. le-ltb m line (omega arith))
