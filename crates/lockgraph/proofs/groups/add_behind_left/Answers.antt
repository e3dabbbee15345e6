-- The group is closed, and the file stands behind it.
use Rattle.lockgraph.proofs.groups.add_behind_left.Goals as goal

pub returns : goal.returns
returns g c = (c.close.new.group, (c.in_ok-close.ensures.closed, c.in_ok-append.ensures))
