use Rattle.std.proofs.Common.{Bor, List, ap, arith, length, length-append, map, subst, sym, ℕ, ◌++◌, ◌≡◌, ◌∙◌}
use Rattle.std.specs.List.{concat}
use Rattle.ld_pieces.specs.Pieces.{EndsLine}
use Rattle.ld_pieces.proofs.JoinLemmas.{ends-behind}
use Rattle.ld_pieces.proofs.PieceLemmas.{concat-push}
use Rattle.ld_pieces.proofs.pieces.Came.push.Goals as goal

abbrev joined : List (Bor (List ℕ)) → List ℕ
joined pieces = concat (map (λ (piece : Bor (List ℕ)). piece.now) pieces)

pub invariant_of-self-2 : goal.invariant_of-self-2
invariant_of-self-2 c =
    let bytes = joined c.self.inside.pieces.items in
    let piece = c.args.piece.now in
    let whole : joined c.push.new.self.items ≡ bytes ++ piece =
    ap joined c.in_ok-push.ensures.items ∙ concat-push (λ (p : Bor (List ℕ)). p.now) c.self.inside.pieces.items c.args.piece in
    let i = c.self.invariant in
    let within = c.requires in
    let long = length-append bytes piece in (
      omega (arith, ap length whole, long, i.0),
      omega (arith, within, i.0, ap length c.self.view_is),
      (λ ended. subst EndsLine (sym whole) (ends-behind bytes piece (c.ends_line-self-inside.ensures ended))),
    )

pub returns-clause-ok : goal.returns-clause-ok
returns-clause-ok c =
    ap joined c.in_ok-push.ensures.items
    ∙ concat-push (λ (p : Bor (List ℕ)). p.now) c.self.inside.pieces.items c.args.piece
    ∙ ap (λ all. all ++ c.args.piece.now) c.self.view_is
