use Rattle.std.proofs.Common.{arith, length-take, ℕ}
use Rattle.ld_io.proofs.Transfers.{at-most-more, gains-most}
use Rattle.ld_io.proofs.transfer.read_up_to.Goals as goal

pub returns-in_err-read_more-clause-most : goal.returns-in_err-read_more-clause-most
returns-in_err-read_more-clause-most g c =
    at-most-more _ _ _ _
    (gains-most _ _ _ _ _ _ c.args.len c.chunks.invariant.gained c.read_more.ensures.most (omega (arith, length-take {A = ℕ}, c.chunks.all.ok.0)))
    (omega (arith, c.args.all.now.ok.0))
