-- What the lines of a known text say, and which of its lines shouldn't stand there.
use Rattle.std.specs.Prelude.{ℕ, ◌+◌, Bool, true, false, not, ◌||◌, ◌==◌, List, [], ◌∷◌, Option, Some, None, drop, is_some, codes, position}
use Rattle.std.specs.List.{list_any, prefix_len}
use Rattle.std.specs.Option.{option_map}
use Rattle.ld_trace.specs.Lines.{is_blank, lines, text_of}
use Rattle.ld_baseline.specs.Said.{PlainSaid, is_field, said_by, same_said}
use Rattle.ld_baseline.specs.Match.{matches}

-- the first field of a report's first line, and of one for a refused trace
abbrev pub is_summary_or_refused : List ℕ → Bool
is_summary_or_refused text = is_field text 0 (codes "traces") || is_field text 0 (codes "refused")

-- the first field of a report's last line
abbrev pub is_last : List ℕ → Bool
is_last text = is_field text 0 (codes "clean") || is_field text 0 (codes "violations")

-- the first field of the last line of a report of what is new
abbrev pub is_last_of_new : List ℕ → Bool
is_last_of_new text = is_field text 0 (codes "new") || is_field text 0 (codes "nothing")

-- the first byte of a comment is `#`; no byte says nothing either
abbrev pub begins_comment : List ℕ → Bool
begins_comment [] = true
begins_comment (b ∷ text) = b == 35

-- a line without its end that says nothing: it has no byte but blanks, or the first other one is `#`
abbrev pub is_comment : List ℕ → Bool
is_comment text = begins_comment (drop (prefix_len is_blank text) text)

-- A line that may stand in a known text: one that says nothing, such as a comment, one of a violation, or
-- another line of a report.
abbrev pub may_stand : List ℕ → Bool
may_stand line =
    is_comment (text_of line) || is_some (said_by (text_of line)) || is_summary_or_refused (text_of line)
    || is_last (text_of line) || is_last_of_new (text_of line)

-- the number, from 1, of the first line that may not stand in a known text
abbrev pub unknown_line : List ℕ → Option ℕ
unknown_line known = option_map (λ n. n + 1) (position (λ line. not (may_stand line)) (lines known))

-- this known line says something, and it matches
abbrev pub is_that : PlainSaid → Option PlainSaid → Bool
is_that said None = false
is_that said (Some known) = matches known said

-- some line of the known text matches what is said
abbrev pub has_said : List ℕ → PlainSaid → Bool
has_said text said = list_any (λ line. is_that said (said_by (text_of line))) (lines text)

-- What the lines of a known text say: `plain` without a `*` in their classes, and `patterns` with one.
pub record PlainKnown : Type 0 where
  pub plain : List PlainSaid
  pub patterns : List PlainSaid

-- one of them matches what is said
abbrev pub is_among : PlainKnown → PlainSaid → Bool
is_among known said = list_any (same_said said) known.plain || list_any (λ pattern. matches pattern said) known.patterns
