use Rattle.std.proofs.Common.{◌∙◌, sym}
use Rattle.ld_rules.specs.Usage.Bit.{In}
use Rattle.ld_tables.proofs.UseLemmas.{in-known}
use Rattle.ld_tables.proofs.uses.Uses.waited.Goals as goal

pub returns-then-has_all-clause-uses : goal.returns-then-has_all-clause-uses
returns-then-has_all-clause-uses c = sym
    (in-known c.args.self.now c.args.class c.args.line c.args.context.now (λ state is. c.if-has_all.ensures (In state) (c.in_bits.ensures state ∙ is)))
