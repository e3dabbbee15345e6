use Rattle.ld_work.proofs.SeenLemmas.{some-kept}
use Rattle.ld_work.proofs.kept.Kept.front.Goals as goal

pub show-requires : goal.show-requires
show-requires g c = some-kept g.H.Room.history c.self.inside.keeper c.self.inside.locked c.requires c.self.invariant
