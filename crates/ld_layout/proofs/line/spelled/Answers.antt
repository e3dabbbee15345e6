-- Each digit makes the number larger, so a number that is too large stays so.
use Rattle.std.proofs.Common.{get_or, sym, ◌∙◌}
use Rattle.ld_layout.proofs.NumberLemmas.{goes_on, holds, is_done, stuck}
use Rattle.ld_layout.specs.Lines.{with_digit}
use Rattle.ld_layout.proofs.line.spelled.Goals as goal

pub returns-in-None : goal.returns-in-None
returns-in-None c = sym (stuck c.loop-digit.number c.loop-digit.digit-index c.args.digits.now c.loop-digit-test.true (sym c.in-None.ensures)) ∙ c.loop-digit.invariant.told

pub loop-digit-preserved : goal.loop-digit-preserved
loop-digit-preserved c = record {
  told = sym (goes_on c.loop-digit.number c.loop-digit.digit-index c.in-Some.more c.args.digits.now c.loop-digit-test.true (sym c.in-Some.ensures)) ∙ c.loop-digit.invariant.told;
  small = holds (with_digit c.loop-digit.number (get_or c.args.digits.now c.loop-digit.digit-index 0)) c.in-Some.more (sym c.in-Some.ensures);
}

pub returns : goal.returns
returns c = sym (is_done c.loop-digit.number c.loop-digit.digit-index c.args.digits.now c.loop-digit-test.false c.loop-digit.invariant.small) ∙ c.loop-digit.invariant.told
