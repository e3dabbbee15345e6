-- Each look-up tells it where it is made.
use Rattle.std.proofs.Common.{◌≡◌, ◌∙◌, true, false, if◌then◌else◌, sym, ap, map}
use Rattle.std.specs.List.{list_any}
use Rattle.ld_baseline.specs.declared.said.Said.{Said}
use Rattle.ld_baseline.specs.Said.{plain_said, same_said}
use Rattle.ld_baseline.specs.Match.{has_star, matches}
use Rattle.ld_baseline.specs.Gone.{PlainViolations, is_in}
use Rattle.ld_baseline.proofs.KnownLemmas.{list_any-map}
use Rattle.ld_baseline.proofs.violations.Violations.have.Goals as goal

pub returns-then-has_star : goal.returns-then-has_star
returns-then-has_star c =
    let known = plain_said c.args.known in
    let all = list_any (matches known) (map plain_said c.self.inside.all.items) in
    let exact = list_any (same_said known) (map plain_said c.self.inside.exact.keys) in
    let star : has_star known ≡ true = sym c.has_star.ensures ∙ c.if-has_star.true in
    c.matches_any.ensures
    ∙ ap (list_any (λ (said : Said). matches known (plain_said said))) c.deref.ensures.value
    ∙ sym (list_any-map plain_said (matches known) c.self.inside.all.items)
    ∙ sym (ap (λ t. if t then all else exact) star)
    ∙ ap (λ (violations : PlainViolations). is_in violations known) c.self.view_is

pub returns-else-has_star : goal.returns-else-has_star
returns-else-has_star c =
    let known = plain_said c.args.known in
    let all = list_any (matches known) (map plain_said c.self.inside.all.items) in
    let exact = list_any (same_said known) (map plain_said c.self.inside.exact.keys) in
    let plain : has_star known ≡ false = sym c.has_star.ensures ∙ c.if-has_star.false in
    let found : c.contains.result ≡ list_any (λ (key : Said). same_said known (plain_said key)) c.self.inside.exact.keys = c.contains.ensures in
    found
    ∙ sym (list_any-map plain_said (same_said known) c.self.inside.exact.keys)
    ∙ sym (ap (λ t. if t then all else exact) plain)
    ∙ ap (λ (violations : PlainViolations). is_in violations known) c.self.view_is
