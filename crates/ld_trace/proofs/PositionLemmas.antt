-- The lines of positions.
use Rattle.std.proofs.Common.{◌+◌, ◌<◌, ◌≤◌, ◌∷◌, [], List, ℕ, filter_map, Some, None, Ok, Err, arith}
use Rattle.std.specs.Prelude.{All, AllPairs}
use Rattle.std.specs.List.{cons_option, enumerate_from}
use Rattle.std.proofs.lemmas.List.Elements.{All-cons}
use Rattle.std.proofs.lemmas.List.Kept.{AllPairs-cons}
use Rattle.ld_trace.specs.Lines.{lines, text_of}
use Rattle.ld_trace.specs.Sources.{PlainSource}
use Rattle.ld_trace.specs.Events.{Position, Said, position_of, positions, said_by}

-- the positions of lines, the first of which has this number
abbrev positions_from : ℕ → List (List ℕ) → List Position
positions_from n all = filter_map (λ p. position_of p.0 (said_by (text_of p.1))) (enumerate_from n all)

-- the first has the least line
none_before : (m n : ℕ) (all : List (List ℕ)) → m ≤ n → All (λ p. m ≤ p.line) (positions_from n all)
none_before m n [] low = λ k d within. absurd (omega arith)
none_before m n (line ∷ all) low = by (said_by (text_of line)) (none_before m (n + 1) all (omega arith))
  where
    by : (said : Said) → All (λ p. m ≤ p.line) (positions_from (n + 1) all) → All (λ p. m ≤ p.line) (cons_option (position_of n said) (positions_from (n + 1) all))
    by (Ok None) rest = rest
    by (Ok (Some event)) rest = All-cons (λ p. m ≤ p.line) (record { line = n; says = Ok event }) (positions_from (n + 1) all) low rest
    by (Err fault) rest = All-cons (λ p. m ≤ p.line) (record { line = n; says = Err fault }) (positions_from (n + 1) all) low rest

ascend : (n : ℕ) (all : List (List ℕ)) → AllPairs (λ p q. p.line < q.line) (positions_from n all)
ascend n [] = λ i j d before within. absurd (omega arith)
ascend n (line ∷ all) = by (said_by (text_of line)) (none_before (n + 1) (n + 1) all (omega arith)) (ascend (n + 1) all)
  where
    by : (said : Said) → All (λ p. n + 1 ≤ p.line) (positions_from (n + 1) all) → AllPairs (λ p q. p.line < q.line) (positions_from (n + 1) all)
        → AllPairs (λ p q. p.line < q.line) (cons_option (position_of n said) (positions_from (n + 1) all))
    by (Ok None) above rest = rest
    by (Ok (Some event)) above rest = AllPairs-cons (λ p q. p.line < q.line) (record { line = n; says = Ok event }) (positions_from (n + 1) all)
        (λ k d within. let low = above k d within in omega (arith, low)) rest
    by (Err fault) above rest = AllPairs-cons (λ p q. p.line < q.line) (record { line = n; says = Err fault }) (positions_from (n + 1) all)
        (λ k d within. let low = above k d within in omega (arith, low)) rest

-- The lines of a source's positions ascend.
pub positions-ascend : (source : PlainSource) → AllPairs (λ p q. p.line < q.line) (positions source)
positions-ascend source = ascend source.first_line (lines source.bytes)
