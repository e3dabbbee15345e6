-- What the program's name alone says.
use Rattle.std.proofs.Common.{rules, arith, ap, ap₂, refl, true, codes, length, map, List, Some, [], ◌∷◌, ◌≡◌, ◌∙◌}
use Rattle.clap.specs.Words.{Text, found_of, is_simple, matches_of, one_of, one_text, takes}
use Rattle.clap.proofs.OnLiterals.{clap_on_literals}
use Rattle.clap.proofs.WalkLemmas.{one_text-rows}
use Rattle.ld_cli.specs.Inner.Words.{told_by_words}
use Rattle.ld_cli.proofs.words.workers.Goals as goal

is_default : (name : Text) → one_of (codes "workers") (matches_of told_by_words (name ∷ [])) ≡ Some (codes "4")
unfolding clap_on_literals
is_default name = refl

is_taken : (name : Text) → takes told_by_words (name ∷ []) ≡ true
unfolding clap_on_literals
is_taken name = refl

alone : {X : Type 0} (f : X → Text) (words : List X) → length words ≡ 1 → (name : Text) × (map f words ≡ name ∷ [])
alone f [] e = absurd (omega arith)
alone f (word ∷ []) e = (f word, refl)
alone f (word ∷ more ∷ words) e = absurd (omega arith)

pub returns-in-Some-1-to-16-clause-alone : goal.returns-in-Some-1-to-16-clause-alone
returns-in-Some-1-to-16-clause-alone g c = λ one.
    let app_is = c.in_ok-command_line.ensures in
    let words = alone _ c.args.words.now one in
    let rows = (c.in_ok-matches.ensures.matches (ap is_simple app_is)).0 ∙ ap₂ matches_of app_is words.1 in
    let text : one_text (found_of c.in_ok-matches.matches) (codes "workers") ≡ Some (codes "4") =
    one_text-rows (found_of c.in_ok-matches.matches) (codes "workers") ∙ ap (one_of (codes "workers")) rows ∙ is_default words.0 in
    let read = c.in-Some-1-to-16.ensures.value (codes "4") (search rules) in
    search rules

pub returns-in_err-matches-clause-alone_refused : goal.returns-in_err-matches-clause-alone_refused
returns-in_err-matches-clause-alone_refused g c = λ one.
    let words = alone _ c.args.words.now one in
    let kind = c.in_err-matches.ensures.passes (ap₂ takes c.in_ok-command_line.ensures words.1 ∙ is_taken words.0) in
    search rules
