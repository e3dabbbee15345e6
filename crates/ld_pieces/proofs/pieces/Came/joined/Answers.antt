use Rattle.std.proofs.Common.{Bor, List, arith, ℕ, ◌∙◌}
use Rattle.ld_pieces.proofs.PieceLemmas.{concat-more}
use Rattle.ld_pieces.proofs.pieces.Came.joined.Goals as goal

pub loop-piece-preserved : goal.loop-piece-preserved
loop-piece-preserved c = c.in_ok-extend_from_slice.ensures.items ∙ concat-more (λ (piece : Bor (List ℕ)). piece.now) c.deref-piece-items.result.now c.loop-piece.piece-index _ _ (omega arith) c.loop-piece.invariant
