use Rattle.std.proofs.Common.{◌∙◌, sym}
use Rattle.ld_rules.specs.Usage.Bit.{On}
use Rattle.ld_tables.proofs.UseLemmas.{on-known}
use Rattle.ld_tables.proofs.uses.Uses.acquired.Goals as goal

pub returns-then-has_all-clause-uses : goal.returns-then-has_all-clause-uses
returns-then-has_all-clause-uses c = sym
    (on-known c.args.self.now c.args.class c.args.line c.args.context.now (λ state is. c.if-has_all.ensures (On state) (c.on_bits.ensures state ∙ is)))
