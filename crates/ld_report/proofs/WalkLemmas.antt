-- The text of a walk, name by name.
use Rattle.std.proofs.Common.{◌≡◌, ◌<◌, ◌+◌, ◌++◌, ◌∷◌, ◌∙◌, [], List, ℕ, codes, get_or, length, take, ap}
use Rattle.std.proofs.lemmas.Grind.{flat_map-append}
use Rattle.std.proofs.lemmas.List.{append-nil, take_more}
use Rattle.ld_class.specs.Names.{PlainClass, no_class}
use Rattle.ld_report.specs.Report.{class_text, steps}

-- one more name behind an arrow
pub steps-more : (names : List PlainClass) (n : ℕ) → n < length names
    → steps (take (n + 1) names) ≡ steps (take n names) ++ (codes " -> " ++ class_text (get_or names n no_class))
steps-more names n within =
    ap steps (take_more names n no_class within)
    ∙ flat_map-append (λ name. codes " -> " ++ class_text name) (take n names) (get_or names n no_class ∷ [])
    ∙ ap (λ text. steps (take n names) ++ text) (append-nil (codes " -> " ++ class_text (get_or names n no_class)))
