-- One processor more.
use Rattle.std.proofs.Common.{◌+◌, subst, sym}
use Rattle.ld_merge.specs.Heads.{IsLeast}
use Rattle.ld_merge.proofs.LeastLemmas.{least_more}
use Rattle.ld_merge.proofs.least.least.Goals as goal

pub heads-preserved : goal.heads-preserved
heads-preserved c =
    subst (λ b. IsLeast c.args.heads.now.items (c.heads.processor + 1) b) (sym c.pick-best.ensures)
    (least_more c.args.heads.now.items c.heads.processor c.heads.best c.item_at-item.result c.item_at-item.ensures c.heads.invariant)
