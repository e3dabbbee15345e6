-- In front stand the lines of the tasks.
use Rattle.std.proofs.Common.{◌≡◌, ◌++◌, rules}
use Rattle.ld_cut.specs.Inner.Kept.{text_of_tasks}
use Rattle.ld_cut.proofs.PiecesLemmas.{carried-is}
use Rattle.ld_cut.proofs.pieces.piece_of.Goals as goal

pub returns : goal.returns
returns c =
    let is : c.extend_from_slice.new.self.items ≡ text_of_tasks c.args.tasks.now ++ c.args.own.now = search rules in
    record { front = text_of_tasks c.args.tasks.now; is = is; carried = carried-is c.args.tasks.now c.requires c.write.ensures.distinct }
