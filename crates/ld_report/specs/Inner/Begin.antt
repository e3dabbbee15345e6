-- How lines begin. No public contract cites this file.
use Rattle.std.specs.Prelude.{List, ℕ, ◌++◌, codes}
use Rattle.ld_trace.specs.Sources.{PlainSource}
use Rattle.ld_book.specs.Findings.{PlainForbiddenRow}
use Rattle.ld_report.specs.Report.{marked, place, state_name}

-- the line of a forbidden walk up to its first end: `forbidden hard A {-...} in T:L`
abbrev pub forbidden_begin : List PlainSource → PlainForbiddenRow → List ℕ
forbidden_begin sources row =
    codes "forbidden " ++ state_name row.state ++ codes " " ++ marked row.from row.from_marks
    ++ codes " in " ++ place sources row.safe_at
