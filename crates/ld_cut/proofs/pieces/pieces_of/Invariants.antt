-- The trace is cut up to what is left.
use Rattle.std.proofs.Common.{◌≡◌, ◌<◌, ◌-◌, length, map}
use Rattle.ld_cut.specs.declared.pieces.Piece.{Piece}
use Rattle.ld_cut.proofs.PiecesLemmas.{IsCutUpTo}
use Rattle.ld_cut.proofs.pieces.pieces_of.Given as goal

abbrev pub invariant-loop-own : goal.invariant-loop-own
invariant-loop-own l = record {
  few : length l.pieces.items < l.most;
  cut : IsCutUpTo l.lines l.source.bytes.now l.rest l.tasks (map (λ (piece : Piece). piece.bytes.items) l.pieces.items);
}

abbrev pub decreases-loop-own : goal.decreases-loop-own
decreases-loop-own l = l.most - length l.pieces.items
