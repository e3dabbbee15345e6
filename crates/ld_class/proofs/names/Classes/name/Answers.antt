use Rattle.std.proofs.Common.{◌∙◌, [], get_or, ap, subst, sym, slice_index_or}
use Rattle.std.proofs.Math.ListN.{get_or-map}
use Rattle.ld_class.specs.declared.names.ClassName.{ClassName}
use Rattle.ld_class.specs.Names.{AreDistinct, no_class, plain_class}
use Rattle.ld_class.proofs.NameLemmas.{place_of-at}
use Rattle.ld_class.proofs.names.Classes.name.Goals as goal

pub returns-clause-name : goal.returns-clause-name
returns-clause-name c =
    let id = c.args.id in
    let empty : ClassName = record { name = record { ref_ptr = (0, 0); now = [] }; sub = 0 } in
    let seen = ap (λ names. slice_index_or names id no_class) c.self.view_is in
    let lent = ap (λ keys. plain_class (get_or keys id empty)) c.as_slice.ensures.keys in
    let at = get_or-map plain_class c.self.inside.names.keys id empty in
    lent ∙ sym at ∙ seen

pub returns-clause-place : goal.returns-clause-place
returns-clause-place c =
    let distinct = subst AreDistinct c.self.view_is c.self.invariant.1 in
    place_of-at c.args.self.now _ c.args.id distinct (c.requires, sym (returns-clause-name c))
