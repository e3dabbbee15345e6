use Rattle.std.proofs.Common.{subst}
use Rattle.ld_graph.specs.Order.{IsInserted}
use Rattle.ld_union.proofs.ClosingLemmas.{closing-closed, closing-other}
use Rattle.ld_union.proofs.dependencies.closing_then.Goals as goal

pub returns-in-Closed : goal.returns-in-Closed
returns-in-Closed c = λ old new inserted was.
    closing-closed old new c.args.edge.from c.args.edge.to (subst (λ answer. IsInserted old c.args.edge.from c.args.edge.to answer new) c.in-Closed.is inserted)

pub returns-in_default : goal.returns-in_default
returns-in_default c = λ old new inserted was.
    closing-other old new c.args.edge.from c.args.edge.to c.args.closing c.args.answer c.in_default.not-Closed inserted was
