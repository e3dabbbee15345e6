-- *Verdict*.
use Rattle.std.specs.Prelude.{◌≡◌, ◌<◌, List}
use Rattle.ld_trace.specs.Sources.{PlainSource}
use Rattle.ld_book.specs.Totals.{refused_count}
use Rattle.ld_book.specs.Violations.{HasViolation}
use Rattle.ld_report.specs.declared.verdict.Verdict.{Verdict}
use Rattle.ld_report.specs.declared.verdict.Verdict.TheVariants.{Clean, Refused, Violations}

-- `Violations` where the sources have a violation, else `Refused` where one of them is refused, else
-- `Clean`
abbrev pub VerdictIs : List PlainSource → Verdict → Type 0
VerdictIs sources Violations = HasViolation sources
VerdictIs sources Refused = (¬ HasViolation sources) × (0 < refused_count sources)
VerdictIs sources Clean = (¬ HasViolation sources) × (refused_count sources ≡ 0)
