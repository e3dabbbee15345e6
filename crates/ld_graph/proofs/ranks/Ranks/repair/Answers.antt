use Rattle.std.proofs.Common.{◌<◌, ℕ, length, subst, sym}
use Rattle.ld_graph.specs.Lists.{IsNear}
use Rattle.ld_graph.proofs.ranks.Ranks.repair.Goals as goal

pub reorder-repaired-requires-clause-ends : goal.reorder-repaired-requires-clause-ends
reorder-repaired-requires-clause-ends g c =
    subst (λ o. (x y : ℕ) → IsNear c.args.lists.now.after.lists x y → (x < length o.ranks) × (y < length o.ranks))
    (sym c.self.view_is) c.requires.ends
