use Rattle.std.proofs.Common.{ap, arith, ◌-◌}
use Rattle.ld_io.specs.declared.transfer.TheConstants.{MOST_READ}
use Rattle.ld_io.proofs.Transfers.{at-most-more, gains-more, gains-most}
use Rattle.ld_pieces.proofs.PieceLemmas.{gains-whole}
use Rattle.ld_pieces.proofs.reading.read_piece.Goals as goal

pub returns-in_err-read_up_to-clause-most : goal.returns-in_err-read_up_to-clause-most
returns-in_err-read_up_to-clause-most g c =
    at-most-more _ _ _ _
    (gains-most _ _ _ _ _ _ (MOST_READ - (c.args.total - c.args.ahead.len)) c.reads.invariant.gained c.read_up_to.ensures.most
    (omega (arith, c.reads.all.ok.0, c.reads.invariant.small, c.reads.invariant.most, c.len.ensures, c.requires.ahead, c.requires.total)))
    (omega (arith, c.reads.invariant.most, c.args.ahead.ok.0, c.requires.ahead, c.requires.total))

pub returns-then-branch-clause-most : goal.returns-then-branch-clause-most
returns-then-branch-clause-most g c =
    at-most-more _ _ _ _
    (gains-most _ _ _ _ _ _ (MOST_READ - (c.args.total - c.args.ahead.len)) c.reads.invariant.gained c.read_up_to.ensures.most
    (omega (arith, c.reads.all.ok.0, c.reads.invariant.small, c.reads.invariant.most, c.len.ensures, c.requires.ahead, c.requires.total)))
    (omega (arith, c.reads.invariant.most, c.args.ahead.ok.0, c.requires.ahead, c.requires.total))

pub returns-in_err-read-clause-most : goal.returns-in_err-read-clause-most
returns-in_err-read-clause-most g c =
    at-most-more _ _ _ _
    (gains-most _ _ _ _ _ _ (MOST_READ - (c.args.total - c.args.ahead.len)) c.reads.invariant.gained c.read_up_to.ensures.most
    (omega (arith, c.reads.all.ok.0, c.reads.invariant.small, c.reads.invariant.most, c.len.ensures, c.requires.ahead, c.requires.total)))
    (omega (arith, c.reads.invariant.most, c.args.ahead.ok.0, c.requires.ahead, c.requires.total))

pub returns-in-Some-clause-most : goal.returns-in-Some-clause-most
returns-in-Some-clause-most g c =
    at-most-more _ _ _ _
    (gains-most _ _ _ _ _ _ (MOST_READ - (c.args.total - c.args.ahead.len)) c.reads.invariant.gained c.read_up_to.ensures.most
    (omega (arith, c.reads.all.ok.0, c.reads.invariant.small, c.reads.invariant.most, c.len.ensures, c.requires.ahead, c.requires.total)))
    (omega (arith, c.reads.invariant.most, c.args.ahead.ok.0, c.requires.ahead, c.requires.total))

pub returns-then-branch-clause-bytes : goal.returns-then-branch-clause-bytes
returns-then-branch-clause-bytes g c =
    gains-whole _ _ _ _ _ _ (gains-more _ _ _ _ _ _ c.reads.invariant.gained c.in_ok-read_up_to.ensures.bytes) (ap (λ v. v.items) c.whole.ensures.piece) c.whole.ensures.ahead
