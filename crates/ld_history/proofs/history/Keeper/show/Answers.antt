use Rattle.std.proofs.Common.{arith}
use Rattle.ld_history.proofs.Moves.{shows}
use Rattle.ld_history.proofs.history.Keeper.show.Goals as goal

pub split_seat-seat-requires : goal.split_seat-seat-requires
split_seat-seat-requires g c =
    let i = c.self.invariant in (
      i.1,
      omega (arith, i.0),
      shows _ _ i.4,
    )
