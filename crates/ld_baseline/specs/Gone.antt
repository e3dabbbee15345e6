-- Which lines of a known text match nothing in a report.
use Rattle.std.specs.Prelude.{ℕ, Bool, false, not, List, [], ◌∷◌, ◌++◌, Option, None, Some, count_by, filter, map, if◌then◌else◌}
use Rattle.std.specs.List.{concat, list_any}
use Rattle.ld_trace.specs.Lines.{lines, text_of}
use Rattle.ld_baseline.specs.Said.{PlainSaid, said_by, same_said}
use Rattle.ld_baseline.specs.Match.{has_star, matches}

-- this line of a report says something, and the known one matches it
abbrev pub is_one_of : PlainSaid → Option PlainSaid → Bool
is_one_of known None = false
is_one_of known (Some said) = matches known said

-- the known one matches what some line of the report says
abbrev pub is_there : (report : List ℕ) (known : PlainSaid) → Bool
is_there report known = list_any (λ line. is_one_of known (said_by (text_of line))) (lines report)

-- something is said, and it isn't there
abbrev pub is_gone_said : (PlainSaid → Bool) → Option PlainSaid → Bool
is_gone_said there None = false
is_gone_said there (Some known) = not (there known)

-- a line of a known text that says something, and what it says isn't there
abbrev pub is_gone : (PlainSaid → Bool) → List ℕ → Bool
is_gone there line = is_gone_said there (said_by (text_of line))

-- a line, ended by LF alone
abbrev pub with_lf : List ℕ → List ℕ
with_lf line = text_of line ++ 10 ∷ []

-- those lines of a known text, in its order
abbrev pub going : (PlainSaid → Bool) → List ℕ → List ℕ
going there known = concat (map with_lf (filter (is_gone there) (lines known)))

-- the lines of the known text that match no line of the report, in its order
abbrev pub gone_lines : (report known : List ℕ) → List ℕ
gone_lines report known = going (is_there report) known

-- how many lines of the known text match no line of the report
abbrev pub count_gone : (report known : List ℕ) → ℕ
count_gone report known = count_by (is_gone (is_there report)) (lines known)

-- What the lines of a report say: `exact` to find a known line without a `*`, and `all` for the others.
pub record PlainViolations : Type 0 where
  pub exact : List PlainSaid
  pub all : List PlainSaid

-- the known one matches one of them
abbrev pub is_in : PlainViolations → PlainSaid → Bool
is_in violations known =
    if has_star known then list_any (matches known) violations.all else list_any (same_said known) violations.exact
