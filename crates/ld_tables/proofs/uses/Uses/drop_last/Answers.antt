use Rattle.std.proofs.Common.{◌<◌, ◌-◌, ◌^◌, ◌∙◌, ◌++◌, ◌∷◌, [], bit_and, length, subst, ap, arith}
use Rattle.std.proofs.lemmas.List.{get_or_default}
use Rattle.ld_class.specs.declared.usage.Usage.{Usage}
use Rattle.ld_class.specs.Usage.{no_bits}
use Rattle.ld_tables.specs.Inner.Uses.{AreNoted}
use Rattle.ld_tables.proofs.UseLemmas.{known_last, noted_cut}
use Rattle.ld_tables.proofs.uses.Uses.drop_last.Goals as goal

pub index_mut-requires : goal.index_mut-requires
index_mut-requires c =
    let within : c.in-Some.fact.class < length c.self.inside.known.items = known_last c.pop.new.self.items c.self.inside.known.items c.in-Some.fact
    (subst (λ fs. AreNoted fs c.self.inside.known.items) c.in-Some.ensures.items c.self.invariant) in
    omega arith

pub invariant_of-self : goal.invariant_of-self
invariant_of-self c =
    let are : AreNoted (c.pop.new.self.items ++ c.in-Some.fact ∷ []) c.self.inside.known.items = subst (λ fs. AreNoted fs c.self.inside.known.items) c.in-Some.ensures.items c.self.invariant in
    let within : c.in-Some.fact.class < length c.self.inside.known.items = known_last c.pop.new.self.items c.self.inside.known.items c.in-Some.fact are in
    noted_cut c.pop.new.self.items c.self.inside.known.items c.in-Some.fact are c.remove.new.self
    (c.remove.ensures tt
    ∙ ap (λ (u : Usage). bit_and u.0 (2 ^ 8 - 1 - c.in-Some.fact.bit.0))
    (c.index_mut.ensures.value ∙ get_or_default c.self.inside.known.items c.in-Some.fact.class c.index_mut.result.now no_bits within))
