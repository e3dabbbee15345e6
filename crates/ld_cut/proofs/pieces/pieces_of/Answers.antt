-- A piece more, and the last one.
use Rattle.std.proofs.Common.{◌≡◌, ◌∙◌, ◌++◌, ◌∷◌, [], List, ℕ, length, map, ap, arith, subst, sym}
use Rattle.std.proofs.lemmas.List.{map-append}
use Rattle.std.proofs.lemmas.List.Elements.{All-nil}
use Rattle.ld_cut.specs.declared.pieces.Piece.{Piece}
use Rattle.ld_cut.specs.Pieces.{IsCutInto}
use Rattle.ld_cut.specs.Inner.Kept.{IsTold}
use Rattle.ld_cut.proofs.PiecesLemmas.{IsCutUpTo, cut-last, cut-next, cut-none}
use Rattle.ld_cut.proofs.pieces.pieces_of.Goals as goal

abbrev bytes_of : Piece → List ℕ
bytes_of piece = piece.bytes.items

pub loop-own-init : goal.loop-own-init
loop-own-init c =
    let bytes = c.args.source.now.bytes.now in
    let some = c.requires in
    record {
      few = omega (arith, ap length c.new-pieces.ensures.items);
      cut = subst (λ ps. IsCutUpTo c.args.lines bytes bytes c.new-tasks.result (map bytes_of ps)) (sym c.new-pieces.ensures.items)
          (subst (λ ts. IsCutUpTo c.args.lines bytes bytes ts []) (sym c.new-tasks.ensures) (cut-none c.args.lines bytes (All-nil IsTold)));
    }

pub loop-own-preserved : goal.loop-own-preserved
loop-own-preserved c =
    let bytes = c.args.source.now.bytes.now in
    let lines = c.args.lines in
    let pieces = c.loop-own.pieces.items in
    let piece = c.in_ok-piece.piece in
    let pushed : map bytes_of c.push.new.self.items ≡ map bytes_of pieces ++ piece.bytes.items ∷ [] = ap (map bytes_of) c.in_ok-push.ensures.items ∙ map-append bytes_of pieces (piece ∷ []) in
    record {
      few = omega (arith, c.loop-own-test.true, c.len.ensures, c.in_ok-push.ensures.len);
      cut = subst (IsCutUpTo lines bytes c.split_behind.result.1.now c.pass.new.self) (sym pushed)
          (cut-next lines bytes c.loop-own.rest.now c.loop-own.tasks (map bytes_of pieces) c.loop-own.invariant.cut c.split_behind.result.0.now c.split_behind.result.1.now piece.bytes.items c.pass.new.self
          c.split_behind.ensures.first c.split_behind.ensures.behind c.in_ok-piece.ensures c.in_ok-pass.ensures.told c.in_ok-pass.ensures.stand);
    }

pub returns-clause-cut : goal.returns-clause-cut
returns-clause-cut c =
    let bytes = c.args.source.now.bytes.now in
    let lines = c.args.lines in
    let pieces = c.loop-own.pieces.items in
    let piece = c.in_ok-piece-2.piece in
    let pushed : map bytes_of c.push-2.new.self.items ≡ map bytes_of pieces ++ piece.bytes.items ∷ [] = ap (map bytes_of) c.in_ok-push-2.ensures.items ∙ map-append bytes_of pieces (piece ∷ []) in
    subst (IsCutInto lines [] bytes) (sym pushed)
    (cut-last lines bytes c.loop-own.rest.now c.loop-own.tasks (map bytes_of pieces) c.loop-own.invariant.cut piece.bytes.items c.in_ok-piece-2.ensures)
