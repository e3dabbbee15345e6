use Rattle.std.proofs.Common.{rules, ◌≡◌, sym}
use Rattle.ld_pieces.proofs.PieceLemmas.{header-first}
use Rattle.ld_pieces.proofs.cut.begins_with_header.Goals as goal

pub returns-in-Some : goal.returns-in-Some
returns-in-Some c second_line =
    let second : c.in-Some.source.now.first_line ≡ 2 = search rules in
    header-first c.args._piece.now c.args.found.now c.in-Some.source.now c.requires (sym c.in-Some.ensures.value) second
