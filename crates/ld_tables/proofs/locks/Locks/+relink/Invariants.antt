use Rattle.std.proofs.Common.{[], get_or, length}
use Rattle.ld_tables.proofs.locks.Locks.+relink.Given as goal

abbrev pub decreases-relink : goal.decreases-relink
decreases-relink l = length (get_or l.self.now.stacks l.task [])
