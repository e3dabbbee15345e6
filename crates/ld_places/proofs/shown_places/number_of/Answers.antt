-- Digits write a number, which may be too large.
use Rattle.std.proofs.Common.{Err, subst}
use Rattle.std.specs.Str.Parse.{ParsesUnsigned}
use Rattle.ld_places.proofs.ShownLemmas.{digits-graphic, number-too_large}
use Rattle.ld_places.proofs.shown_places.number_of.Goals as goal

pub text_of-requires : goal.text_of-requires
text_of-requires c = digits-graphic c.args.digits.now c.requires.all

pub returns-in-Err : goal.returns-in-Err
returns-in-Err c =
    number-too_large c.args.digits.now c.requires.some c.requires.all c.in-Err.field-0
    (subst (λ text. ParsesUnsigned 64 10 text (Err c.in-Err.field-0)) c.text_of.ensures c.in-Err.ensures.value.0)
