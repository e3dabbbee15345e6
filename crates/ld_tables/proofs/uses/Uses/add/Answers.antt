use Rattle.std.proofs.Common.{◌<◌, ◌∙◌, bit_or, length, set, subst, sym, ap, arith}
use Rattle.std.proofs.lemmas.List.{get_or_default}
use Rattle.ld_class.specs.declared.usage.Usage.{Usage}
use Rattle.ld_class.specs.Usage.{has_bit, no_bits}
use Rattle.ld_tables.specs.Inner.Uses.{AreNoted}
use Rattle.ld_tables.proofs.UseLemmas.{noted_push, noted_reached}
use Rattle.ld_tables.proofs.uses.Uses.add.Goals as goal

pub invariant_of-self-2 : goal.invariant_of-self-2
invariant_of-self-2 c =
    let within : c.args.fact.class < length c.extend_to.new.known.items = omega (arith, c.in_ok-extend_to.ensures.reached) in
    subst (λ fs. AreNoted fs (set c.extend_to.new.known.items c.args.fact.class c.insert.new.self)) (sym c.in_ok-push.ensures.items)
    (noted_push c.self.inside.facts.items c.extend_to.new.known.items c.args.fact
    (noted_reached c.self.inside.facts.items c.self.inside.known.items c.extend_to.new.known.items c.self.invariant c.extend_to.ensures.kept)
    c.requires within c.insert.new.self
    (sym (c.contains.ensures tt
    ∙ ap (λ (u : Usage). has_bit u c.args.fact.bit) (c.index.ensures ∙ get_or_default c.extend_to.new.known.items c.args.fact.class c.index.result.now no_bits within))
    ∙ c.if-contains.false)
    (c.insert.ensures tt
    ∙ ap (λ (u : Usage). bit_or u.0 c.args.fact.bit.0)
    (c.index_mut.ensures.value ∙ get_or_default c.extend_to.new.known.items c.args.fact.class c.index_mut.result.now no_bits within)))
