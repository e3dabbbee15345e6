-- A line of no file has no place.
use Rattle.std.proofs.Common.{◌≡◌, ◌-◌, arith, inr, subst, sym}
use Rattle.ld_places.specs.Places.{IsPlace}
use Rattle.ld_files.proofs.homes.home_of.Goals as goal

pub returns-in-None : goal.returns-in-None
returns-in-None c =
    let same : c.saturating_sub-line.result ≡ c.args.source.now.first_line - 1 = omega (arith, c.saturating_sub-line.ensures) in
    inr (λ place is. c.in-None.ensures place (subst (λ line. IsPlace c.args.places.now line place) (sym same) is))
