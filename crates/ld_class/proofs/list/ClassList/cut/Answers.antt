use Rattle.std.proofs.Common.{◌∙◌, ap, arith, length, map, sym, subst, take}
use Rattle.std.proofs.lemmas.List.{length-take, take-map}
use Rattle.ld_class.specs.Names.{AreDistinct, plain_class}
use Rattle.ld_class.proofs.ListLemmas.{apart-take}
use Rattle.ld_class.proofs.list.ClassList.cut.Goals as goal

pub invariant_of-self : goal.invariant_of-self
invariant_of-self c =
    let names = c.self.inside.names.items in (
      omega (arith, ap (λ xs. length xs) c.truncate.ensures.items, length-take c.args.n names, c.self.invariant.0),
      subst AreDistinct (take-map plain_class c.args.n names ∙ ap (map plain_class) (sym c.truncate.ensures.items))
          (apart-take (map plain_class names) c.args.n c.self.invariant.1),
    )

pub returns : goal.returns
returns c =
    ap (map plain_class) c.truncate.ensures.items ∙ sym (take-map plain_class c.args.n c.self.inside.names.items)
    ∙ ap (take c.args.n) c.self.view_is
