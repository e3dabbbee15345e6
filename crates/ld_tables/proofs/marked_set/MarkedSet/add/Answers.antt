use Rattle.std.proofs.Common.{◌≡◌, ◌∷◌, [], ◌++◌, ◌∙◌, false, true, nat_eq, set, ap, subst, sym, arith}
use Rattle.std.proofs.lemmas.Grind.{common_steps}
use Rattle.std.specs.List.{list_any}
use Rattle.ld_tables.specs.Inner.Numbers.{AreMarked}
use Rattle.ld_tables.proofs.MarkLemmas.{marked_push, marked_reached}
use Rattle.ld_tables.proofs.marked_set.MarkedSet.add.Goals as goal

pub invariant_of-self-2 : goal.invariant_of-self-2
invariant_of-self-2 c =
    let none : list_any (nat_eq c.args.number) c.self.inside.order.items ≡ false = ap (list_any (nat_eq c.args.number)) c.self.view_is ∙ c.requires in
    let items : c.push_reserved.new.self.items ≡ c.reserve.new.self.items ++ c.args.number ∷ [] = grind (arith, common_steps) in
    subst (λ xs. AreMarked xs (set c.extend_to.new.marks.items c.args.number true))
    (sym (items ∙ ap (λ xs. xs ++ c.args.number ∷ []) c.reserve.ensures.items))
    (marked_push c.self.inside.order.items c.extend_to.new.marks.items c.args.number
    (marked_reached c.self.inside.order.items c.self.inside.marks.items c.extend_to.new.marks.items c.self.invariant c.extend_to.ensures.kept)
    c.in_ok-extend_to.ensures.reached none)
