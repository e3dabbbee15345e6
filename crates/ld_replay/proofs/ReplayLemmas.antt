-- A source that is replayed, one line further.
use Rattle.std.proofs.Common.{◌≡◌, ◌+◌, ◌≤◌, ◌<◌, ◌++◌, ◌∷◌, [], List, ℕ, true, false, eqb, ltb, length, filter, filter_map, get_or, Option, Some, None, Ok, Err, refl, ap, sym, subst, ◌∙◌, arith, append_assoc, length-append, if◌then◌else◌}
use Rattle.std.specs.Prelude.{All}
use Rattle.std.proofs.lemmas.Bool.{lt-ltb, ne_eqb}
use Rattle.std.proofs.lemmas.List.{append-nil}
use Rattle.std.proofs.lemmas.List.Elements.{All-append, All-cons, All-head, All-nil, All-tail, filter-append}
use Rattle.std.specs.List.{cons_option}
use Rattle.std.specs.Option.{option_map}
use Rattle.ld_trace.specs.declared.event.Event.{Event}
use Rattle.std.proofs.Common.{◌⊎◌, inl, inr}
use Rattle.ld_trace.specs.Lines.{lines, text_of}
use Rattle.ld_trace.specs.Sources.{PlainSource}
use Rattle.ld_trace.specs.Events.{PlainEvent, Position, Said, plain_event, position_of, positions, said_by}
use Rattle.ld_rules.specs.Outcome.{events}
use Rattle.ld_rules.proofs.OutcomeLemmas.{events-push}
use Rattle.ld_replay.specs.HeldAt.{before_line, events_at}
use Rattle.ld_replay.specs.Inner.Task.{IsAfter, PlainTask, stepped, task_in}
use Rattle.ld_replay.specs.Inner.Replay.{IsReplayed, event_of, first_said, positions_from}
use Rattle.ld_replay.proofs.LineLemmas.{before-none, events-at, line-above, line-here}
use Rattle.ld_replay.proofs.OpenedLemmas.{events-more}
use Rattle.ld_replay.proofs.StepLemmas.{after-event, after-none}

-- positions that are all before a line
before-all : (past : List Position) (n line : ℕ) → All (λ p. p.line < n) past → n ≤ line → before_line past line ≡ past
before-all [] n line low within = refl
before-all (p ∷ past) n line low within =
    let first : p.line < n = All-head (λ q. q.line < n) p past low in
    let here : ltb p.line line ≡ true = lt-ltb p.line line (omega arith) in
    rw here (ap (λ ps. p ∷ ps) (before-all past n line (All-tail (λ q. q.line < n) p past low) within))

at-none : (past : List Position) (n line : ℕ) → All (λ p. p.line < n) past → n ≤ line → filter (λ p. eqb p.line line) past ≡ []
at-none [] n line low within = refl
at-none (p ∷ past) n line low within =
    let first : p.line < n = All-head (λ q. q.line < n) p past low in
    let other : eqb p.line line ≡ false = ne_eqb p.line line (λ e. omega arith) in
    rw other (at-none past n line (All-tail (λ q. q.line < n) p past low) within)

along : (past before : List Position) (o : Option Position) → past ++ cons_option o before ≡ (past ++ cons_option o []) ++ before
along past before None = ap (λ ps. ps ++ before) (sym (append-nil past))
along past before (Some p) = sym (append_assoc past (p ∷ []) before)

-- a line that says no event adds none
events-none : (past : List Position) (line : ℕ) (said : Said) → event_of said ≡ None → events (past ++ cons_option (position_of line said) []) ≡ events past
events-none past line (Ok None) none = ap events (append-nil past)
events-none past line (Ok (Some e)) none = let no : Some e ≡ None = none in cc
events-none past line (Err fault) none = events-push past (record { line = line; says = Err fault }) ∙ append-nil (events past)

-- what a line says is at its number
at-number : (n : ℕ) (past : List Position) (said : Said) → All (λ p. p.line < n) past → All (λ p. p.line < n + 1) (past ++ cons_option (position_of n said) [])
at-number n past said low = All-append (λ p. p.line < n + 1) past (cons_option (position_of n said) []) (λ k d lt. let at : (get_or past k d).line < n = low k d lt in omega arith) (own said)
  where
    own : (said : Said) → All (λ p. p.line < n + 1) (cons_option (position_of n said) [])
    own (Ok None) = All-nil (λ p. p.line < n + 1)
    own (Ok (Some event)) = All-cons (λ p. p.line < n + 1) (record { line = n; says = Ok event }) [] (omega arith) (All-nil (λ p. p.line < n + 1))
    own (Err fault) = All-cons (λ p. p.line < n + 1) (record { line = n; says = Err fault }) [] (omega arith) (All-nil (λ p. p.line < n + 1))

module _ (source : PlainSource) (number : ℕ) (rest : List ℕ) (place : ℕ) (tasks : List PlainTask) (is : IsReplayed source number rest place tasks) where
  -- the positions so far, and those of this line and of what follows
  further : (first others : List ℕ) → lines rest ≡ first ∷ lines others → positions source ≡
      (is.past ++ cons_option (position_of number (said_by (text_of first))) []) ++ positions_from (number + 1) (lines others)
  further first others cut =
      is.whole
      ∙ ap (λ ls. is.past ++ positions_from number ls) cut
      ∙ along is.past (positions_from (number + 1) (lines others)) (position_of number (said_by (text_of first)))

  pub replay-nothing : (first others : List ℕ) → lines rest ≡ first ∷ lines others → event_of (said_by (text_of first)) ≡ None → IsReplayed source (number + 1) others place tasks
  replay-nothing first others cut none = record {
    past = is.past ++ cons_option (position_of number (said_by (text_of first))) [];
    whole = further first others cut;
    passed = at-number number is.past (said_by (text_of first)) is.passed;
    after = λ name. after-none is.past number (task_in tasks name) (is.after name) (said_by (text_of first)) none;
    count = is.count ∙ ap length (sym (events-none is.past number (said_by (text_of first)) none));
  }

  pub replay-event : (first others : List ℕ) → lines rest ≡ first ∷ lines others → (e : PlainEvent) → said_by (text_of first) ≡ Ok (Some e) → (new : List PlainTask) →
      ((name : List ℕ) → task_in new name ≡ stepped (task_in tasks name) e place number) → IsReplayed source (number + 1) others (place + 1) new
  replay-event first others cut e says new stepped_are = record {
    past = is.past ++ record { line = number; says = Ok e } ∷ [];
    whole = further first others cut ∙ ap (λ said. (is.past ++ cons_option (position_of number said) []) ++ positions_from (number + 1) (lines others)) says;
    passed = at-number number is.past (Ok (Some e)) is.passed;
    after = λ name. subst (IsAfter (is.past ++ record { line = number; says = Ok e } ∷ [])) (sym (stepped_are name ∙ ap (λ n. stepped (task_in tasks name) e n number) is.count))
        (after-event is.past number (task_in tasks name) (is.after name) e);
    count = let more : length (events is.past ++ e ∷ []) ≡ length (events is.past) + 1 = omega (arith, length-append (events is.past) (e ∷ [])) in
        ap (λ n. n + 1) is.count ∙ sym (ap length (events-more is.past e number) ∙ more);
  }

  -- at a line, or at the end, the positions before it are those that were read
  before-is : (line : ℕ) → number ≤ line → before_line (positions_from number (lines rest)) line ≡ [] → before_line (positions source) line ≡ is.past
  before-is line within none =
      ap (λ ps. before_line ps line) is.whole
      ∙ filter-append (λ p. ltb p.line line) is.past (positions_from number (lines rest))
      ∙ (λ i. before-all is.past number line is.passed within i ++ none i)
      ∙ append-nil is.past

  events-are : (line : ℕ) → number ≤ line → events_at (positions source) line ≡ events_at (positions_from number (lines rest)) line
  events-are line within =
      ap (λ ps. events_at ps line) is.whole
      ∙ ap events (filter-append (λ p. eqb p.line line) is.past (positions_from number (lines rest)))
      ∙ ap (λ ps. events (ps ++ filter (λ p. eqb p.line line) (positions_from number (lines rest)))) (at-none is.past number line is.passed within)

  -- the line is the next one, or no line is left
  module _ (line : ℕ) (within : number ≤ line) (reached : (number ≡ line) ⊎ (rest ≡ [])) where
    next-or-none : events_at (positions_from number (lines rest)) line ≡ cons_option (first_said (lines rest)) []
    next-or-none = by reached (lines rest) refl
      where
        by : (number ≡ line) ⊎ (rest ≡ []) → (ls : List (List ℕ)) → lines rest ≡ ls → events_at (positions_from number ls) line ≡ cons_option (first_said ls) []
        by r [] is = refl
        by (inl same) (first ∷ others) is =
            events-at number (first ∷ others) line
            ∙ ap (filter_map (λ found. event_of (said_by (text_of found)))) (line-here number first others line same)
        by (inr none) (first ∷ others) is = let bad : [] ≡ first ∷ others = sym (ap lines none) ∙ is in cc

    open-none : before_line (positions_from number (lines rest)) line ≡ []
    open-none = by reached
      where
        by : (number ≡ line) ⊎ (rest ≡ []) → before_line (positions_from number (lines rest)) line ≡ []
        by (inl same) = before-none number (lines rest) line (omega arith)
        by (inr none) = ap (λ bytes. before_line (positions_from number (lines bytes)) line) none

    at-next : (o : Option Event) → option_map plain_event o ≡ first_said (lines rest) → events_at (positions source) line ≡ cons_option (option_map plain_event o) []
    at-next o is = events-are line within ∙ next-or-none ∙ ap (λ e. cons_option e []) (sym is)

    pub none-before : (o : Option Event) → option_map plain_event o ≡ first_said (lines rest) → o ≡ None → events_at (positions source) line ≡ []
    none-before o is none = at-next o is ∙ ap (λ p. cons_option (option_map plain_event p) []) none

    pub some-before : (o : Option Event) → option_map plain_event o ≡ first_said (lines rest) → (event : Event) → o ≡ Some event → events_at (positions source) line ≡ plain_event event ∷ []
    some-before o is event some = at-next o is ∙ ap (λ p. cons_option (option_map plain_event p) []) some

    pub open-before : (name : List ℕ) → IsAfter (before_line (positions source) line) (task_in tasks name)
    open-before name = subst (λ ps. IsAfter ps (task_in tasks name)) (sym (before-is line within open-none)) (is.after name)

-- no event stands before the first line
pub none-above : (source : PlainSource) (line : ℕ) → line < source.first_line → events_at (positions source) line ≡ []
none-above source line low =
    events-at source.first_line (lines source.bytes) line
    ∙ ap (filter_map (λ found. event_of (said_by (text_of found)))) (line-above source.first_line (lines source.bytes) line low)
