-- What `json` writes of some traces.
use Rattle.std.specs.Prelude.{◌≡◌, ℕ, List, All, length, map}
use Rattle.ld_trace.specs.Sources.{PlainSource}
use Rattle.ld_check.specs.OfReport.OfBook.Totals.{totals}
use Rattle.ld_explain.specs.Rows.{AreRefusals, AreViolations, IsFirstRow, refusal_said, row_said, totals_row}
use Rattle.ld_json.specs.Json.{json_text}
use Rattle.ld_rows.specs.declared.violations.Rows.{Rows}

-- The text is the rows of all that a report of these traces says: their totals, every rejected trace and every violation
-- in the order of the report, and each dependency with the line of its first occurrence.
pub record IsJsonOf (sources : List PlainSource) (text : List ℕ) : Type 0 where
  pub rows : Rows
  pub totals : rows.totals ≡ totals_row (totals sources)
  pub refused : AreRefusals sources (map refusal_said rows.refused.items)
  pub violations : AreViolations sources (map row_said rows.violations.items)
  pub count : rows.count ≡ length rows.violations.items
  pub first : All (IsFirstRow sources) rows.dependencies.items
  pub written : text ≡ json_text rows
