-- The earlier of two witnesses.
use Rattle.std.proofs.Common.{◌≡◌, ◌<◌, ◌||◌, Bool, false, not, Option, Some, None, refl, sym, ap, ◌∙◌, arith}
use Rattle.std.proofs.Math.Bool.{or_assoc}
use Rattle.std.proofs.lemmas.Bool.Decides.{nat_tests}
use Rattle.ld_rules.specs.declared.outcome.Witness.{Witness}
use Rattle.ld_rules.specs.Union.{earlier, is_before}
use Rattle.ld_batch.specs.Inner.Rows.{earlier_of}

-- there is a witness, and it isn't later than this bound
abbrev pub is_by : Witness → Option Witness → Bool
is_by bound None = false
is_by bound (Some witness) = not (is_before bound witness)

-- the earlier of two witnesses isn't later than a bound where one of the two isn't
pub by-earlier : (bound a b : Witness) → is_by bound (Some (earlier a b)) ≡ (is_by bound (Some a) || is_by bound (Some b))
by-earlier bound a b = grind (arith, nat_tests)

-- witnesses that aren't later than the same bounds are the same
pub same_from_bounds : (a b : Option Witness) → ((bound : Witness) → is_by bound a ≡ is_by bound b) → a ≡ b
same_from_bounds None None same = refl
same_from_bounds None (Some b) same = absurd (grind (arith, nat_tests, same b))
same_from_bounds (Some a) None same = absurd (grind (arith, nat_tests, same a))
same_from_bounds (Some a) (Some b) same =
    let at_a = same a in
    let at_b = same b in
    let number : a.number ≡ b.number = grind (arith, nat_tests, at_a, at_b) in
    let line : a.line ≡ b.line = grind (arith, nat_tests, at_a, at_b, number) in
    λ i. Some (record { number = number i; line = line i })

-- of three witnesses, each of which may be absent, it doesn't matter which two are compared first
pub earlier_of-assoc : (a b c : Option Witness) → earlier_of (earlier_of a b) c ≡ earlier_of a (earlier_of b c)
earlier_of-assoc None b c = refl
earlier_of-assoc (Some a) None c = refl
earlier_of-assoc (Some a) (Some b) None = refl
earlier_of-assoc (Some a) (Some b) (Some c) = same_from_bounds (Some (earlier (earlier a b) c)) (Some (earlier a (earlier b c))) (λ bound.
    by-earlier bound (earlier a b) c
    ∙ ap (λ t. t || is_by bound (Some c)) (by-earlier bound a b)
    ∙ or_assoc (is_by bound (Some a)) (is_by bound (Some b)) (is_by bound (Some c))
    ∙ ap (λ t. is_by bound (Some a) || t) (sym (by-earlier bound b c))
    ∙ sym (by-earlier bound a (earlier b c)))

-- a witness in a lower trace is the earlier one
pub earlier-lower : (a b : Witness) → a.number < b.number → earlier a b ≡ a
earlier-lower a b lower = grind (arith, nat_tests, lower)
