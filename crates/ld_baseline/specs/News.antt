-- Which lines of a report are new, and the report of what is new. `has` tells what is known.
use Rattle.std.specs.Prelude.{ℕ, Bool, false, not, ◌&&◌, ◌==◌, List, [], ◌++◌, Option, None, Some, codes, count_by, decimal, filter, if◌then◌else◌}
use Rattle.std.specs.List.{concat}
use Rattle.ld_trace.specs.Lines.{lines, text_of}
use Rattle.ld_baseline.specs.Said.{PlainSaid, said_by}
use Rattle.ld_baseline.specs.Gone.{count_gone}
use Rattle.ld_baseline.specs.Known.{has_said, is_last, is_summary_or_refused}

-- something is said, and it is known
abbrev pub is_known_said : (PlainSaid → Bool) → Option PlainSaid → Bool
is_known_said has None = false
is_known_said has (Some said) = has said

-- A line of a report that stays: each but the last one, and those that say what is known. So a line that can't
-- be read stays.
abbrev pub stays : (PlainSaid → Bool) → List ℕ → Bool
stays has line = not (is_last (text_of line)) && not (is_known_said has (said_by (text_of line)))

-- a line that stays and is one of a violation
abbrev pub is_new : (PlainSaid → Bool) → List ℕ → Bool
is_new has line = stays has line && not (is_summary_or_refused (text_of line))

-- the lines of a report that stay, in its order
abbrev pub staying : (PlainSaid → Bool) → List ℕ → List ℕ
staying has report = concat (filter (stays has) (lines report))

-- how many of them are of violations
abbrev pub count_staying : (PlainSaid → Bool) → List ℕ → ℕ
count_staying has report = count_by (is_new has) (lines report)

-- `nothing new`, or `new N`
abbrev pub last_line : ℕ → List ℕ
last_line count = if count == 0 then codes "nothing new\n" else codes "new " ++ decimal count ++ codes "\n"

-- how many violations of a report say what no line of the known text says
abbrev pub count_new : (report known : List ℕ) → ℕ
count_new report known = count_staying (has_said known) report

-- a comment that says how many known lines match nothing, if there are some
abbrev pub gone_note : ℕ → List ℕ
gone_note count =
    if count == 0 then []
    else codes "# known lines that match nothing: " ++ decimal count ++ codes " (--fixed lists them)\n"

-- The report of what is new: the lines of the report without those of violations that a line of the known text says
-- too; a comment if known lines match nothing; and in place of the last line how many violations are left.
abbrev pub new_report : (report known : List ℕ) → List ℕ
new_report report known =
    staying (has_said known) report ++ gone_note (count_gone report known) ++ last_line (count_new report known)
