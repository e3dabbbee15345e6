-- What `list` and `stats` come to.
use Rattle.std.specs.Prelude.{◌==◌, ℕ, if◌then◌else◌}
use Rattle.ld_check.specs.OfReport.declared.verdict.Verdict.{Verdict}
use Rattle.ld_check.specs.OfReport.declared.verdict.Verdict.TheVariants.{Clean, Refused}

-- `Refused` where a trace is refused, of which nothing is told, else `Clean`
abbrev pub verdict_of_read : (refused : ℕ) → Verdict
verdict_of_read refused = if refused == 0 then Clean else Refused
