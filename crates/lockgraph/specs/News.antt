-- What `new` says of some traces and a known text.
use Rattle.std.specs.Prelude.{◌≡◌, ◌≤◌, ℕ, ◌==◌, false, List, [], ◌++◌, codes, decimal, flat_map, length, if◌then◌else◌}
use Rattle.std.specs.List.{list_any}
use Rattle.ld_trace.specs.Sources.{PlainSource}
use Rattle.ld_check.specs.OfReport.OfBook.Totals.{refused_count}
use Rattle.ld_check.specs.OfReport.Report.{IsReport}
use Rattle.ld_check.specs.OfReport.declared.verdict.Verdict.{Verdict}
use Rattle.ld_check.specs.OfReport.declared.verdict.Verdict.TheVariants.{Clean, Refused, Violations}
use Rattle.ld_baseline.specs.Gone.{count_gone, gone_lines}
use Rattle.ld_baseline.specs.News.{count_new, new_report}
use Rattle.ld_places.specs.Places.{PlainFile}
use Rattle.ld_places.specs.ShownPlaces.{has_origin}
use Rattle.lockgraph.specs.declared.news.Telling.{Telling}
use Rattle.lockgraph.specs.declared.news.Telling.TheVariants as tellings
use Rattle.ld_files.specs.Comments.{comment_line}
use Rattle.lockgraph.specs.Shown.{verdict_of_read}

-- `Violations` where some are new, else `Refused` where a trace is refused, else `Clean`
abbrev pub verdict_of_new : (count refused : ℕ) → Verdict
verdict_of_new count refused = if count == 0 then (if refused == 0 then Clean else Refused) else Violations

-- The text is the report of what is new in the report of these sources, and the verdict what it comes to. Comments
-- follow it where the sources are of several files, or one of those in order says where it comes from.
pub record IsNewsWith (files : List PlainFile) (in_order sources : List PlainSource) (known text : List ℕ) (verdict : Verdict) : Type 0 where
  pub report : List ℕ
  pub remarks : List (List ℕ)
  pub is : IsReport sources report
  pub text_is : text ≡ new_report report known ++ flat_map comment_line remarks
  pub few : length files ≤ 1 → list_any has_origin in_order ≡ false → remarks ≡ []
  pub verdict_is : verdict ≡ verdict_of_new (count_new report known) (refused_count sources)

-- The verdict is what the violations of these sources come to, of which some are new.
pub record ComesToNew (sources : List PlainSource) (known : List ℕ) (verdict : Verdict) : Type 0 where
  pub report : List ℕ
  pub is : IsReport sources report
  pub verdict_is : verdict ≡ verdict_of_new (count_new report known) (refused_count sources)

-- the same of the sources in order
abbrev pub IsNewsOf : List PlainFile → List PlainSource → (known text : List ℕ) → Verdict → Type 0
IsNewsOf files sources known text verdict = IsNewsWith files sources sources known text verdict

-- `nothing fixed`, or `fixed N`
abbrev pub fixed_line : ℕ → List ℕ
fixed_line count = if count == 0 then codes "nothing fixed\n" else codes "fixed " ++ decimal count ++ codes "\n"

-- The text has the known lines that match nothing in the report of these sources, in their order, and how many they are.
-- The verdict is `Refused` where a trace is refused, of which nothing is in the report, else `Clean`.
pub record IsFixedOf (sources : List PlainSource) (known text : List ℕ) (verdict : Verdict) : Type 0 where
  pub report : List ℕ
  pub is : IsReport sources report
  pub text_is : text ≡ gone_lines report known ++ fixed_line (count_gone report known)
  pub verdict_is : verdict ≡ verdict_of_read (refused_count sources)

-- either of them, by what is to be told
abbrev pub IsToldWith : Telling → List PlainFile → (in_order sources : List PlainSource) → (known text : List ℕ) → Verdict → Type 0
IsToldWith tellings.New files in_order sources known text verdict = IsNewsWith files in_order sources known text verdict
IsToldWith tellings.Gone files in_order sources known text verdict = IsFixedOf sources known text verdict

-- the same of the sources in order
abbrev pub IsToldOf : Telling → List PlainFile → List PlainSource → (known text : List ℕ) → Verdict → Type 0
IsToldOf telling files sources known text verdict = IsToldWith telling files sources sources known text verdict
