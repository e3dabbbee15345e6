-- The least line of what stands at positions: it is that of the first occurrence, since lines ascend.
use Rattle.std.proofs.Common.{◌≡◌, ◌+◌, ◌<◌, ◌≤◌, ◌++◌, ◌∷◌, [], List, ℕ, suc, Bool, true, false, cond, min, map, filter, fold, flat_map, filter_map}
use Rattle.std.proofs.Common.{take, Option, Some, None, Result, Ok, Err, refl, ap, sym, ◌∙◌, arith, if◌then◌else◌, option_map}
use Rattle.std.specs.Prelude.{All, AllPairs}
use Rattle.std.specs.List.{cons_option, enumerate_from, find, list_any, reduce}
use Rattle.std.specs.Option.{option_or}
use Rattle.std.proofs.Math.Nat.{le_refl, min-eq_left}
use Rattle.std.proofs.lemmas.List.{append-nil, map-append}
use Rattle.std.proofs.lemmas.List.Elements.{All-cons, All-head, All-tail, filter-append}
use Rattle.std.proofs.lemmas.List.Kept.{AllPairs-cons}
use Rattle.ld_trace.specs.declared.event.LineFault.{LineFault}
use Rattle.ld_trace.specs.Sources.{PlainSource}
use Rattle.ld_trace.specs.Events.{PlainEvent, Position, positions}
use Rattle.ld_trace.proofs.PositionLemmas.{positions-ascend}
use Rattle.ld_rules.specs.Outcome.{each_once, events}
use Rattle.ld_rules.specs.Dependency.{Seen, least_line, seen, seen_at}
use Rattle.ld_rules.proofs.PlaceLemmas.{find_each_once}

-- what holds of an element and of each later one
pub first_pairs : {X : Type 0} (R : X → X → Type 0) (x : X) (xs : List X) → AllPairs R (x ∷ xs) → All (R x) xs
first_pairs R x xs pairs k d within = pairs 0 (suc k) d (omega arith) (omega arith)

pub later_pairs : {X : Type 0} (R : X → X → Type 0) (x : X) (xs : List X) → AllPairs R (x ∷ xs) → AllPairs R xs
later_pairs R x xs pairs i j d before within = pairs (suc i) (suc j) d (omega arith) (omega arith)

-- A part of a list, by the elements' places.

module _ {X : Type 0} (drops : ℕ → X → Bool) where
  abbrev rest_of : ℕ → List X → List X
  rest_of n xs = filter_map (λ p. if drops p.0 p.1 then None else Some p.1) (enumerate_from n xs)

  rest-All : (P : X → Type 0) (n : ℕ) (xs : List X) → All P xs → All P (rest_of n xs)
  rest-All P n [] all = all
  rest-All P n (x ∷ xs) all = by (drops n x) (rest-All P (n + 1) xs (All-tail P x xs all))
    where
      by : (b : Bool) → All P (rest_of (n + 1) xs) → All P (cons_option (if b then None else Some x) (rest_of (n + 1) xs))
      by true rest = rest
      by false rest = All-cons P x (rest_of (n + 1) xs) (All-head P x xs all) rest

  rest-AllPairs : (R : X → X → Type 0) (n : ℕ) (xs : List X) → AllPairs R xs → AllPairs R (rest_of n xs)
  rest-AllPairs R n [] pairs = pairs
  rest-AllPairs R n (x ∷ xs) pairs = by (drops n x) (rest-AllPairs R (n + 1) xs (later_pairs R x xs pairs))
    where
      by : (b : Bool) → AllPairs R (rest_of (n + 1) xs) → AllPairs R (cons_option (if b then None else Some x) (rest_of (n + 1) xs))
      by true rest = rest
      by false rest = AllPairs-cons R x (rest_of (n + 1) xs) (rest-All (R x) (n + 1) xs (first_pairs R x xs pairs)) rest

-- What stands at positions.

module _ {A : Type 0} where
  -- lines ascend, where more than one thing may stand at a line
  abbrev pub Ascend : List (Seen A) → Type 0
  Ascend all = AllPairs (λ s t. s.line ≤ t.line) all

  -- what stands at one line, before others
  at_one-All : (m line : ℕ) (whats : List A) (others : List (Seen A)) → m ≤ line → All (λ s. m ≤ s.line) others → All (λ s. m ≤ s.line)
      (map (λ what. record { what = what; line = line }) whats ++ others)
  at_one-All m line [] others low above = above
  at_one-All m line (what ∷ whats) others low above =
      All-cons (λ s. m ≤ s.line) (record { what = what; line = line }) (map (λ what. record { what = what; line = line }) whats ++ others) low (at_one-All m line whats others low above)

  at_one-Ascend : (line : ℕ) (whats : List A) (others : List (Seen A)) → All (λ s. line ≤ s.line) others → Ascend others → Ascend (map (λ what. record { what = what; line = line }) whats ++ others)
  at_one-Ascend line [] others above rest = rest
  at_one-Ascend line (what ∷ whats) others above rest =
      AllPairs-cons (λ s t. s.line ≤ t.line) (record { what = what; line = line }) (map (λ what. record { what = what; line = line }) whats ++ others)
      (at_one-All line line whats others (le_refl line) above) (at_one-Ascend line whats others above rest)

  module _ (at : List PlainEvent → PlainEvent → List A) (past : ℕ → List PlainEvent) where
    abbrev seen_from : ℕ → List Position → List (Seen A)
    seen_from n all = flat_map (λ p. seen_at at (past p.0) p.1.line p.1.says) (enumerate_from n all)

    seen_from-All : (m n : ℕ) (all : List Position) → All (λ p. m ≤ p.line) all → All (λ s. m ≤ s.line) (seen_from n all)
    seen_from-All m n [] above = λ k d within. absurd (omega arith)
    seen_from-All m n (p ∷ all) above = by p.says (seen_from-All m (n + 1) all (All-tail (λ q. m ≤ q.line) p all above))
      where
        by : (says : Result PlainEvent LineFault) → All (λ s. m ≤ s.line) (seen_from (n + 1) all) → All (λ s. m ≤ s.line) (seen_at at (past n) p.line says ++ seen_from (n + 1) all)
        by (Ok event) rest = at_one-All m p.line (at (past n) event) (seen_from (n + 1) all) (All-head (λ q. m ≤ q.line) p all above) rest
        by (Err fault) rest = rest

    seen_from-Ascend : (n : ℕ) (all : List Position) → AllPairs (λ p q. p.line < q.line) all → Ascend (seen_from n all)
    seen_from-Ascend n [] ascend = λ i j d before within. absurd (omega arith)
    seen_from-Ascend n (p ∷ all) ascend = by p.says (seen_from-Ascend (n + 1) all (later_pairs (λ q r. q.line < r.line) p all ascend))
      where
        above : All (λ q. p.line ≤ q.line) all
        above k d within = let later = first_pairs (λ q r. q.line < r.line) p all ascend k d within in omega (arith, later)

        by : (says : Result PlainEvent LineFault) → Ascend (seen_from (n + 1) all) → Ascend (seen_at at (past n) p.line says ++ seen_from (n + 1) all)
        by (Ok event) rest = at_one-Ascend p.line (at (past n) event) (seen_from (n + 1) all) (seen_from-All p.line (n + 1) all above) rest
        by (Err fault) rest = rest

  pub seen-Ascend : (at : List PlainEvent → PlainEvent → List A) (all : List Position) → AllPairs (λ p q. p.line < q.line) all → Ascend (seen at all)
  seen-Ascend at all ascend = seen_from-Ascend at (λ n. events (take n all)) 0 all ascend

module _ {A : Type 0} (same : A → A → Bool) where
  -- the line of the first of these that is this
  abbrev pub first_line : List (Seen A) → A → Option ℕ
  first_line all what = option_map (λ s. s.line) (find (λ s. same what s.what) all)

  -- the lines at which this stands
  abbrev lines_of : List (Seen A) → A → List ℕ
  lines_of all what = map (λ s. s.line) (filter (λ s. same what s.what) all)

  -- a line is the least, where none is lesser
  none_lesser : (line : ℕ) (all : List (Seen A)) (what : A) → All (λ s. line ≤ s.line) all → fold min line (lines_of all what) ≡ line
  none_lesser line [] what above = refl
  none_lesser line (s ∷ all) what above = by (same what s.what) (none_lesser line all what (All-tail (λ t. line ≤ t.line) s all above))
    where
      by : (b : Bool) → fold min line (lines_of all what) ≡ line → fold min line (map (λ t. t.line) (cond b (s ∷ filter (λ t. same what t.what) all) (filter (λ t. same what t.what) all))) ≡ line
      by true rest = ap (λ n. fold min n (lines_of all what)) (min-eq_left (All-head (λ t. line ≤ t.line) s all above)) ∙ rest
      by false rest = rest

  -- Where lines ascend, the least line is that of the first occurrence.
  pub least_is_first : (all : List (Seen A)) → Ascend all → (what : A) → least_line same all what ≡ first_line all what
  least_is_first [] ascend what = refl
  least_is_first (s ∷ all) ascend what = by (same what s.what) (least_is_first all (later_pairs (λ t u. t.line ≤ u.line) s all ascend) what)
    where
      by : (b : Bool) → least_line same all what ≡ first_line all what
          → reduce min (map (λ t. t.line) (cond b (s ∷ filter (λ t. same what t.what) all) (filter (λ t. same what t.what) all))) ≡ option_map
          (λ t. t.line) (cond b (Some s) (find (λ t. same what t.what) all))
      by true rest = ap Some (none_lesser s.line all what (first_pairs (λ t u. t.line ≤ u.line) s all ascend))
      by false rest = rest

  -- of the same thing, at whatever line
  abbrev same_seen : Seen A → Seen A → Bool
  same_seen s t = same s.what t.what

  -- What is left with each once has the same least lines.
  pub least_once : ((x y : A) → same x y ≡ true → (z : A) → same x z ≡ same y z) → (all : List (Seen A)) → Ascend all → (what : A) → least_line same
      (each_once same_seen all) what ≡ least_line same all what
  least_once alike all ascend what =
      least_is_first (each_once same_seen all) (rest-AllPairs (λ n s. list_any (same_seen s) (take n all)) (λ s t. s.line ≤ t.line) 0 all ascend) what
      ∙ ap (option_map (λ s. s.line)) (find_each_once same_seen (λ s t is u. alike s.what t.what is u.what) (record { what = what; line = 0 }) all)
      ∙ sym (least_is_first all ascend what)

  -- nothing is found where it stands nowhere
  pub least_line-none : (all : List (Seen A)) (what : A) → find (λ s. same what s.what) all ≡ None → least_line same all what ≡ None
  least_line-none [] what none = refl
  least_line-none (s ∷ all) what none = by (same what s.what) none (least_line-none all what)
    where
      by : (b : Bool) → cond b (Some s) (find (λ t. same what t.what) all) ≡ None → (find (λ t. same what t.what) all ≡ None → least_line same all what ≡ None)
          → reduce min (map (λ t. t.line) (cond b (s ∷ filter (λ t. same what t.what) all) (filter (λ t. same what t.what) all))) ≡ None
      by true found rest = cc
      by false found rest = rest found
