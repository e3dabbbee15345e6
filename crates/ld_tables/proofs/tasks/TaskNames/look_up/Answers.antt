use Rattle.std.proofs.Common.{◌≡◌, ◌∙◌, [], ℕ, Option, ap, sym, refl, Some, None}
use Rattle.std.proofs.lemmas.Slice.Eq.{bytes_eq-Decides}
use Rattle.std.specs.Option.{IfSome}
use Rattle.std.specs.Str.{bytes_eq}
use Rattle.ld_class.specs.Names.{IsTaskAt, place_of_task}
use Rattle.ld_class.proofs.AnyNames.{first_place-Some}
use Rattle.ld_tables.specs.declared.tasks.TheConstants.{MOST_KNOWN_TASKS}
use Rattle.ld_tables.proofs.TaskLemmas.{place-known, place-unknown}
use Rattle.ld_tables.proofs.tasks.TaskNames.look_up.Goals as goal

pub returns-in_err-known-clause-place : goal.returns-in_err-known-clause-place
returns-in_err-known-clause-place c =
    let unknown = sym c.find.ensures.place ∙ c.in_err-known.was in
    c.from_residual.ensures
    ∙ sym (place-unknown MOST_KNOWN_TASKS c.self.inside.known c.self.inside.here c.self.invariant c.args.name.now unknown)
    ∙ ap (λ tasks. place_of_task tasks c.args.name.now) c.self.view_is

pub returns-clause-place : goal.returns-clause-place
returns-clause-place c =
    c.place_of_number.ensures.place
    ∙ sym (place-known MOST_KNOWN_TASKS c.self.inside.known c.self.inside.here c.self.invariant c.args.name.now
    c.in_ok-known.known (sym c.find.ensures.place ∙ c.in_ok-known.was))
    ∙ ap (λ tasks. place_of_task tasks c.args.name.now) c.self.view_is

pub returns-clause-here : goal.returns-clause-here
returns-clause-here c = by c.place_of_number.result refl
  where
    by : (r : Option ℕ) → c.place_of_number.result ≡ r → IfSome r (λ id. IsTaskAt c.args.self.now id c.args.name.now)
    by None _ = tt
    by (Some id) is = first_place-Some bytes_eq [] bytes_eq-Decides c.args.self.now c.args.name.now id
        (sym (returns-clause-place c) ∙ is)
