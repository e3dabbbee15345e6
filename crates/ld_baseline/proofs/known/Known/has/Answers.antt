-- Either look-up tells it.
use Rattle.std.proofs.Common.{◌≡◌, ◌∙◌, ◌||◌, true, false, sym, ap, map}
use Rattle.std.specs.List.{list_any}
use Rattle.ld_baseline.specs.declared.said.Said.{Said}
use Rattle.ld_baseline.specs.Said.{PlainSaid, plain_said, same_said}
use Rattle.ld_baseline.specs.Match.{matches}
use Rattle.ld_baseline.specs.Known.{PlainKnown, is_among}
use Rattle.ld_baseline.proofs.KnownLemmas.{list_any-map}
use Rattle.ld_baseline.proofs.known.Known.has.Goals as goal

pub returns-then-contains : goal.returns-then-contains
returns-then-contains c =
    let said = plain_said c.args.said in
    let keys = c.self.inside.plain.keys in
    let patterns = list_any (λ (pattern : PlainSaid). matches pattern said) (map plain_said c.self.inside.patterns.items) in
    let found : c.contains.result ≡ list_any (λ (key : Said). same_said said (plain_said key)) keys = c.contains.ensures in
    let first : list_any (same_said said) (map plain_said keys) ≡ true =
    list_any-map plain_said (same_said said) keys ∙ sym found ∙ c.if-contains.true in
    c.if-contains.true
    ∙ sym (ap (λ b. b || patterns) first)
    ∙ ap (λ (known : PlainKnown). is_among known said) c.self.view_is

pub returns-else-contains : goal.returns-else-contains
returns-else-contains c =
    let said = plain_said c.args.said in
    let keys = c.self.inside.plain.keys in
    let patterns = list_any (λ (pattern : PlainSaid). matches pattern said) (map plain_said c.self.inside.patterns.items) in
    let found : c.contains.result ≡ list_any (λ (key : Said). same_said said (plain_said key)) keys = c.contains.ensures in
    let first : list_any (same_said said) (map plain_said keys) ≡ false =
    list_any-map plain_said (same_said said) keys ∙ sym found ∙ c.if-contains.false in
    c.is_matched.ensures
    ∙ ap (list_any (λ (pattern : Said). matches (plain_said pattern) said)) c.deref.ensures.value
    ∙ sym (list_any-map plain_said (λ (pattern : PlainSaid). matches pattern said) c.self.inside.patterns.items)
    ∙ sym (ap (λ b. b || patterns) first)
    ∙ ap (λ (known : PlainKnown). is_among known said) c.self.view_is
