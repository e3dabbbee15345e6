-- The pieces so far are there.
use Rattle.std.proofs.Common.{◌≡◌, length, map, take}
use Rattle.ld_trace.specs.declared.source.Source.{Source}
use Rattle.ld_cut.specs.declared.pieces.Piece.{Piece}
use Rattle.ld_cut.proofs.stream.sources_of.Given as goal

abbrev pub invariant-loop-piece : goal.invariant-loop-piece
invariant-loop-piece l = record {
  bytes : map (λ (source : Source). source.bytes.now) l.sources.items ≡ map (λ (piece : Piece). piece.bytes.items) (take l.piece-index l.pieces);
  count : length l.sources.items ≡ l.piece-index;
}
