-- How far a trace is read. The loop of `read_into` cites this, and no promise.
use Rattle.std.specs.Prelude.{◌≡◌, ℕ, List, [], ◌++◌, length}
use Rattle.std.specs.List.{filter_map, enumerate_from}
use Rattle.ld_trace.specs.Lines.{lines, text_of}
use Rattle.ld_trace.specs.Sources.{PlainSource}
use Rattle.ld_trace.specs.Events.{Position, position_of, positions, said_by}
use Rattle.ld_facts.specs.declared.scan.Scan.{Scan}
use Rattle.ld_facts.specs.Inner.Scan.{IsAt, Start}

-- the positions of lines, the first of which has this number
abbrev pub positions_from : ℕ → List ℕ → List Position
positions_from line bytes =
    filter_map (λ p. position_of p.0 (said_by (text_of p.1))) (enumerate_from line (lines bytes))

-- the positions before these lines, and the scan that they leave where it began as another
pub record IsReadTo (source : PlainSource) (line : ℕ) (rest : List ℕ) (old scan : Scan)
    (count : ℕ) : Type 0 where
  pub before : List Position
  pub whole : positions source ≡ before ++ positions_from line rest
  pub scanned : (start : Start) → IsAt start [] old → IsAt start before scan
  pub counted : count ≡ length before
