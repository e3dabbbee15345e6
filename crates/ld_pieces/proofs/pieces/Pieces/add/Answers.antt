use Rattle.std.proofs.Common.{IfSome, arith, map, subst}
use Rattle.ld_trace.specs.Sources.{plain}
use Rattle.ld_pieces.specs.Pieces.{BeginsWithHeader, IsCutBehind}
use Rattle.ld_pieces.proofs.PieceLemmas.{added}
use Rattle.ld_pieces.proofs.pieces.Pieces.add.Goals as goal

pub invariant_of-self-in-Some : goal.invariant_of-self-in-Some
invariant_of-self-in-Some c _ =
    let before = c.self.invariant c.if-not-self.false in
    added c.self.inside.came c.args.piece.now c.push-2.new.self c.self.inside.traces.items c.in-Some.more.items c.append.new.self.items c.len-traces.result c.in_ok-lines.lines c.len.result before.1 before.0
    (subst (λ o. IfSome o (λ more. IsCutBehind c.args.piece.now c.len-traces.result c.in_ok-lines.lines (map plain more.items))) c.in-Some.is c.in_ok-more.ensures.cut)
    (omega (arith, c.len-traces.ensures, c.self.inside.traces.ok.0))
    c.in_ok-lines.ensures.lines
    c.len.ensures
    (c.is_whole.ensures c.if-not-is_whole.false)
    (λ first. subst (λ o. IfSome o (λ _. BeginsWithHeader c.args.piece.now)) c.in-Some.is (c.in_ok-more.ensures.header first))
    c.in_ok-push.ensures.ok
    c.in_ok-append.ensures.items
