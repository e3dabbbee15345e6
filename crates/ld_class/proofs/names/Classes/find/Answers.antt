use Rattle.std.proofs.Common.{ap, subst, ◌∙◌}
use Rattle.ld_class.specs.Names.{AreDistinct, place_of, plain_class}
use Rattle.ld_class.proofs.NameLemmas.{place_of-exact}
use Rattle.ld_class.proofs.Shown.{place_of-shown}
use Rattle.ld_class.proofs.names.Classes.find.Goals as goal

pub returns-in_err-place-clause-place : goal.returns-in_err-place-clause-place
returns-in_err-place-clause-place c =
    let name = plain_class c.args.name in
    c.from_residual.ensures ∙ c.in_err-place.ensures.index
    ∙ place_of-shown c.self.inside.names.keys name
    ∙ ap (λ names. place_of names name) c.self.view_is

pub returns-in_err-place-clause-exact : goal.returns-in_err-place-clause-exact
returns-in_err-place-clause-exact c =
    let distinct = subst AreDistinct c.self.view_is c.self.invariant.1 in
    place_of-exact c.args.self.now (plain_class c.args.name) _ distinct
    (returns-in_err-place-clause-place c)

pub returns-clause-place : goal.returns-clause-place
returns-clause-place c =
    let name = plain_class c.args.name in
    c.in_ok-place.ensures.index ∙ place_of-shown c.self.inside.names.keys name
    ∙ ap (λ names. place_of names name) c.self.view_is

pub returns-clause-exact : goal.returns-clause-exact
returns-clause-exact c =
    let distinct = subst AreDistinct c.self.view_is c.self.invariant.1 in
    place_of-exact c.args.self.now (plain_class c.args.name) _ distinct (returns-clause-place c)
