use Rattle.std.proofs.Common.{◌≡◌, ◌∷◌, [], ◌++◌, ◌∙◌, false, length, nat_eq, set, ap, subst, sym, arith}
use Rattle.std.proofs.lemmas.Grind.{common_steps}
use Rattle.std.specs.List.{list_any}
use Rattle.ld_tables.specs.Inner.Numbers.{AreAtPlaces}
use Rattle.ld_tables.proofs.NumberLemmas.{pushed, reached}
use Rattle.ld_tables.proofs.sparse_set.SparseSet.add.Goals as goal

pub invariant_of-self-2 : goal.invariant_of-self-2
invariant_of-self-2 c =
    let none : list_any (nat_eq c.args.number) c.self.inside.order.items ≡ false = ap (list_any (nat_eq c.args.number)) c.self.view_is ∙ c.requires in
    let items : c.push_reserved.new.self.items ≡ c.reserve.new.self.items ++ c.args.number ∷ [] = grind (arith, common_steps) in
    let count : length c.self.inside.order.items ≡ c.in_ok-place.place = omega (arith, c.len.ensures, c.in_ok-place.ensures) in
    subst (λ n. AreAtPlaces c.push_reserved.new.self.items (set c.extend_to.new.place.items c.args.number n)) count
    (subst (λ xs. AreAtPlaces xs (set c.extend_to.new.place.items c.args.number (length c.self.inside.order.items)))
    (sym (items ∙ ap (λ xs. xs ++ c.args.number ∷ []) c.reserve.ensures.items))
    (pushed c.self.inside.order.items c.extend_to.new.place.items
    (reached c.self.inside.order.items c.self.inside.place.items c.self.invariant c.extend_to.new.place.items c.extend_to.ensures.more c.extend_to.ensures.kept)
    c.args.number c.in_ok-extend_to.ensures.reached none))
