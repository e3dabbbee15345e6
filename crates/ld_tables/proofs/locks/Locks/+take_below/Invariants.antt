use Rattle.std.proofs.Common.{[], get_or, length}
use Rattle.ld_tables.proofs.locks.Locks.+take_below.Given as goal

abbrev pub decreases-take_below : goal.decreases-take_below
decreases-take_below l = length (get_or l.self.now.stacks l.task [])
