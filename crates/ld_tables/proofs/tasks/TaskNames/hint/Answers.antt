use Rattle.std.proofs.Common.{◌≡◌, ◌∙◌, [], ℕ, Option, ap, sym, refl, Some, None}
use Rattle.std.proofs.lemmas.Slice.Eq.{bytes_eq-Decides}
use Rattle.std.specs.Option.{IfSome}
use Rattle.std.specs.Str.{bytes_eq}
use Rattle.ld_class.specs.Names.{IsTaskAt, place_of_task}
use Rattle.ld_class.proofs.AnyNames.{first_place-Some}
use Rattle.ld_tables.specs.declared.tasks.TheConstants.{MOST_KNOWN_TASKS}
use Rattle.ld_tables.proofs.TaskLemmas.{place-known}
use Rattle.ld_tables.proofs.tasks.TaskNames.hint.Goals as goal

pub returns-then-is_at-clause-place : goal.returns-then-is_at-clause-place
returns-then-is_at-clause-place c =
    c.place_of_number.ensures.place
    ∙ sym (place-known MOST_KNOWN_TASKS c.self.inside.known c.self.inside.here c.self.invariant c.args.name.now
    c.of-hint.result c.if-is_at.ensures.at)
    ∙ ap (λ tasks. place_of_task tasks c.args.name.now) c.self.view_is

pub returns-then-is_at-clause-here : goal.returns-then-is_at-clause-here
returns-then-is_at-clause-here c = by c.place_of_number.result refl
  where
    by : (r : Option ℕ) → c.place_of_number.result ≡ r → IfSome r (λ id. IsTaskAt c.args.self.now id c.args.name.now)
    by None _ = tt
    by (Some id) is = first_place-Some bytes_eq [] bytes_eq-Decides c.args.self.now c.args.name.now id
        (sym (returns-then-is_at-clause-place c) ∙ is)
