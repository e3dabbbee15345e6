use Rattle.std.proofs.Common.{◌<◌, ◌∙◌, ap, arith, length, slice_index_or, subst, sym}
use Rattle.std.proofs.lemmas.List.{get_or-map, length-map}
use Rattle.ld_class.specs.Names.{AreDistinct, no_class, plain_class}
use Rattle.ld_class.proofs.NameLemmas.{place_of-at}
use Rattle.ld_class.proofs.list.ClassList.name.Goals as goal

pub returns-clause-place : goal.returns-clause-place
returns-clause-place c =
    let names = c.self.inside.names.items in
    let id = c.args.id in
    let within : id < length names = omega (arith, c.requires, length-map names plain_class, ap (λ ns. length ns) c.self.view_is) in
    place_of-at c.args.self.now _ id (subst AreDistinct c.self.view_is c.self.invariant.1) (
      c.requires,
      ap (λ ns. slice_index_or ns id no_class) (sym c.self.view_is)
          ∙ get_or-map plain_class names id c.index.result.now no_class within ∙ ap plain_class (sym c.index.ensures),
    )
