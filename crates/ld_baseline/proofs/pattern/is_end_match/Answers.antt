-- The whole of what is left is an end of it.
use Rattle.std.proofs.Common.{◌∙◌, sym}
use Rattle.ld_baseline.specs.Match.{is_match}
use Rattle.ld_baseline.proofs.MatchLemmas.{whole_end}
use Rattle.ld_baseline.proofs.pattern.is_end_match.Goals as goal

pub returns-in-Whole : goal.returns-in-Whole
returns-in-Whole c =
    sym (whole_end (is_match c.loop-behind.left.now) c.loop-behind.rest.now c.in-Whole.ensures) ∙ c.loop-behind.invariant
