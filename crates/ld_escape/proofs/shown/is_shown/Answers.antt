-- A text is UTF-8, and nothing else is.
use Rattle.std.proofs.Common.{◌≡◌, ◌∙◌, ◌&&◌, ◌<◌, ℕ, arith, get_or, not, chars, true, false, refl, sym, ap}
use Rattle.std.specs.List.{list_any}
use Rattle.std.specs.Str.{is_utf8}
use Rattle.std.proofs.lemmas.Bool.Decides.{nat_tests}
use Rattle.std.proofs.lemmas.List.Folds.{list_any_none}
use Rattle.std.proofs.lemmas.Str.{IsUtf8-from_ascii, IsUtf8-from_is_utf8, chars-IsAscii, is_utf8-from_IsUtf8}
use Rattle.std.proofs.lemmas.Str.Ascii.{All-from_ascii}
use Rattle.ld_escape.specs.Shown.{is_odd}
use Rattle.ld_escape.proofs.shown.is_shown.Goals as goal

-- no character of ASCII is odd
below_odd : (c : ℕ) → c < 128 → is_odd c ≡ false
below_odd c h = grind (arith, nat_tests)

pub returns-in-Ok : goal.returns-in-Ok
returns-in-Ok c =
    let name = c.args.name.now in
    let yes = is_utf8-from_IsUtf8 name c.in-Ok.ensures.cases.1 in
    ap not c.has_odd.ensures
    ∙ ap (λ text. not (list_any is_odd (chars text))) c.in-Ok.ensures.cases.0
    ∙ ap (λ b. b && not (list_any is_odd (chars name))) (sym yes)

pub returns-in-Err : goal.returns-in-Err
returns-in-Err c =
    let name = c.args.name.now in
    let no = elim (is_utf8 name) as (λ b. is_utf8 name ≡ b → b ≡ false) [ true ↦ λ e. absurd (c.in-Err.ensures.cases.0 (IsUtf8-from_is_utf8 name e)) | false ↦ λ e. refl ] refl in
    sym (ap (λ b. b && not (list_any is_odd (chars name))) no)

pub returns-then-is_ascii : goal.returns-then-is_ascii
returns-then-is_ascii c =
    let name = c.args.name.now in
    let ascii = c.if-is_ascii.ensures.cases in
    let none = list_any_none is_odd name (λ k d within. below_odd (get_or name k d) (All-from_ascii name ascii k d within)) in
    sym (ap (λ b. b && not (list_any is_odd (chars name))) (is_utf8-from_IsUtf8 name (IsUtf8-from_ascii name ascii))
    ∙ ap (λ text. not (list_any is_odd text)) (chars-IsAscii name ascii) ∙ ap not none)
