use Rattle.std.proofs.Common.{List, arith, length-append, ◌++◌}
use Rattle.ld_io.proofs.Transfers.{consumes_at_most}
use Rattle.ld_check.proofs.reading.read_pieces.Goals as goal

pub returns-in_err-read-clause-most : goal.returns-in_err-read-clause-most
returns-in_err-read-clause-most g c =
    consumes_at_most _ _ _ (c.loop-cell.pieces ++ c.loop-cell.ahead.items) _ _ c.loop-cell.invariant.consumed c.read_piece.ensures.most
    (omega (arith, length-append c.loop-cell.pieces c.loop-cell.ahead.items, c.loop-cell.ahead.ok.0, c.loop-cell.invariant.within, c.len.ensures, c.len-in-loop-cell.ensures))

pub returns-in_err-text-clause-most : goal.returns-in_err-text-clause-most
returns-in_err-text-clause-most g c =
    consumes_at_most _ _ _ (c.loop-cell.pieces ++ c.loop-cell.ahead.items) _ _ c.loop-cell.invariant.consumed c.read_piece.ensures.most
    (omega (arith, length-append c.loop-cell.pieces c.loop-cell.ahead.items, c.loop-cell.ahead.ok.0, c.loop-cell.invariant.within, c.len.ensures, c.len-in-loop-cell.ensures))

pub returns-in_err-add-clause-most : goal.returns-in_err-add-clause-most
returns-in_err-add-clause-most g c =
    consumes_at_most _ _ _ (c.loop-cell.pieces ++ c.loop-cell.ahead.items) _ _ c.loop-cell.invariant.consumed c.read_piece.ensures.most
    (omega (arith, length-append c.loop-cell.pieces c.loop-cell.ahead.items, c.loop-cell.ahead.ok.0, c.loop-cell.invariant.within, c.len.ensures, c.len-in-loop-cell.ensures))

pub returns-then-read-clause-most : goal.returns-then-read-clause-most
returns-then-read-clause-most g c =
    consumes_at_most _ _ _ (c.loop-cell.pieces ++ c.loop-cell.ahead.items) _ _ c.loop-cell.invariant.consumed c.read_piece.ensures.most
    (omega (arith, length-append c.loop-cell.pieces c.loop-cell.ahead.items, c.loop-cell.ahead.ok.0, c.loop-cell.invariant.within, c.len.ensures, c.len-in-loop-cell.ensures))
