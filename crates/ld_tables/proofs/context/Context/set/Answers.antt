use Rattle.std.proofs.Common.{get_or, ap, sym, ◌∙◌}
use Rattle.std.specs.List.{list_any}
use Rattle.ld_rules.specs.Flags.{same_state}
use Rattle.ld_tables.proofs.context.Context.set.Goals as goal

pub invariant_of-self : goal.invariant_of-self
invariant_of-self c = record {
  begins = c.self.invariant.begins ∙ ap (λ starts. get_or starts 0 0) (sym c.set.ensures.starts);
  waits = λ state. c.self.invariant.waits state ∙ ap (list_any (same_state state)) (sym c.set.ensures.states);
  holds = c.on_bits-self-inside.ensures;
}
