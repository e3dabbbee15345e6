use Rattle.std.proofs.Common.{◌<◌, ◌∙◌, length, ap, sym, arith}
use Rattle.std.proofs.lemmas.Bool.{OnTrue_from}
use Rattle.std.proofs.lemmas.List.{get_or_default}
use Rattle.std.specs.List.{list_any}
use Rattle.ld_class.specs.declared.usage.Usage.{Usage}
use Rattle.ld_class.specs.Usage.{has_bit, no_bits}
use Rattle.ld_tables.specs.Inner.Uses.{fact, same_fact}
use Rattle.ld_tables.proofs.UseLemmas.{each-there}
use Rattle.ld_tables.proofs.uses.Uses.has_all.Goals as goal

pub returns : goal.returns
returns c = OnTrue_from c.contains.result _ (λ is. λ bit one.
    let within : c.args.class < length c.self.inside.known.items = omega arith in
    let read = c.index.ensures ∙ get_or_default c.self.inside.known.items c.args.class c.index.result.now no_bits within in
    let all = ap (λ (u : Usage). has_bit u c.args.bits) (sym read) ∙ sym (c.contains.ensures tt) ∙ is in
    sym (ap (list_any (same_fact (fact bit 0 c.args.class))) c.self.view_is)
    ∙ each-there c.self.inside.facts.items c.args.class c.self.inside.known.items c.self.invariant c.args.bits all bit one)
