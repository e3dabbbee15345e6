use Rattle.std.proofs.Common.{rules, ◌≡◌, ◌<◌, ◌≤◌, ◌+◌, ◌-◌, ◌++◌, ◌∙◌, ap, append_assoc, arith, codes, drop, get_or, length, sym, take}
use Rattle.std.proofs.lemmas.Grind.{get_or_after_one}
use Rattle.std.proofs.lemmas.List.{length-drop}
use Rattle.ld_class.specs.Names.{no_class, plain_class}
use Rattle.ld_report.specs.Report.{class_text, steps}
use Rattle.ld_report.proofs.WalkLemmas.{steps-more}
use Rattle.ld_report.proofs.lines.write_steps.Goals as goal

pub loop-place-preserved : goal.loop-place-preserved
loop-place-preserved c =
    let names = c.args.walk.now in
    let others = drop 1 names in
    let place = c.loop-place.place in
    let first : 1 ≤ place = search rules in
    let within : place < length names = search rules in
    let name : plain_class c.name.result ≡ get_or others (place - 1) no_class = c.name.ensures
    ∙ ap (λ n. get_or names n no_class) (omega (arith, first)) ∙ sym (get_or_after_one names (place - 1) no_class) in
    let below : place - 1 < length others = let len = length-drop 1 names in omega (arith, first, within, len) in
    let count : place - 1 + 1 ≡ place + 1 - 1 = omega (arith, first) in
    let joined : c.args.text.now.items ++ steps (take (place - 1) others) ++ codes " -> " ++ class_text (plain_class c.name.result)
    ≡ c.args.text.now.items ++ (steps (take (place - 1) others) ++ (codes " -> " ++ class_text (plain_class c.name.result))) = simp append_assoc in
    c.in_ok-write_name.ensures
    ∙ ap (λ text. text ++ codes " -> " ++ class_text (plain_class c.name.result)) c.loop-place.invariant
    ∙ joined
    ∙ ap (λ text. c.args.text.now.items ++ text)
    (ap (λ class. steps (take (place - 1) others) ++ (codes " -> " ++ class_text class)) name
    ∙ sym (steps-more others (place - 1) below)
    ∙ ap (λ n. steps (take n others)) count)
