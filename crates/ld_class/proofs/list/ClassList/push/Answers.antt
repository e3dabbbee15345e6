use Rattle.std.proofs.Common.{◌≡◌, ◌++◌, ◌∷◌, ◌∙◌, [], None, ap, arith, length, map, sym, subst}
use Rattle.std.proofs.lemmas.List.{length-map, length_push, map-append}
use Rattle.ld_class.specs.Names.{AreDistinct, place_of, plain_class}
use Rattle.ld_class.proofs.ListLemmas.{apart-push}
use Rattle.ld_class.proofs.list.ClassList.push.Goals as goal

pub invariant_of-self-2 : goal.invariant_of-self-2
invariant_of-self-2 c =
    let names = c.self.inside.names.items in
    let new : place_of (map plain_class names) (plain_class c.args.name) ≡ None = subst (λ ns. place_of ns (plain_class c.args.name) ≡ None) (sym c.self.view_is) c.requires.new in (
      omega (arith, ap (λ xs. length xs) c.in_ok-push.ensures.items, length_push names c.args.name, length-map names plain_class, ap (λ xs. length xs) c.self.view_is, c.requires.room),
      subst AreDistinct (sym (map-append plain_class names (c.args.name ∷ [])) ∙ ap (map plain_class) (sym c.in_ok-push.ensures.items))
          (apart-push (map plain_class names) (plain_class c.args.name) c.self.invariant.1 new),
    )
