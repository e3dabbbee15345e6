use Rattle.std.proofs.Common.{arith}
use Rattle.ld_history.proofs.Moves.{appends}
use Rattle.ld_history.proofs.history.Keeper.add.Goals as goal

pub store-requires : goal.store-requires
store-requires g c =
    let i = c.self.invariant in (
      i.1,
      omega (arith, i.0),
      appends _ _ _ 0 g.N.Noted.entry i.4,
    )
