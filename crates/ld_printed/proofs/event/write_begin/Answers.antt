use Rattle.std.proofs.Common.{◌++◌, ◌∙◌, FitsSigned, ap, codes, decimal, rules, w32}
use Rattle.std.specs.Fmt.{signed_decimal}
use Rattle.ld_printed.specs.Printed.{hex}
use Rattle.std.proofs.lemmas.Int.{to_z-of_z}
use Rattle.ld_printed.proofs.PieceLemmas.{first, then_one, then_two}
use Rattle.ld_printed.proofs.event.write_begin.Goals as goal

pub returns : goal.returns
returns c =
    let old = c.args.out.now.items in
    let s = c.args.step.now in
    let step_fits : FitsSigned w32 s.step = search rules in
    let x1 = codes "cpuhp_enter: cpu: " ++ decimal s.processor in
    let h1 = first old (codes "cpuhp_enter: cpu: ") (decimal s.processor) (c.in_ok-write_number.ensures) in
    let x2 = x1 ++ codes " target: 0 step: " ++ signed_decimal s.step in
    let h2 = then_two old x1 (codes " target: 0 step: ") (signed_decimal s.step) h1 (c.in_ok-write_signed.ensures ∙ ap (λ z. c.write_number.new.out.items ++ codes " target: 0 step: " ++ signed_decimal z) (to_z-of_z w32 s.step step_fits)) in
    let x3 = x2 ++ codes " (" ++ hex s.function in
    let h3 = then_two old x2 (codes " (") (hex s.function) h2 (c.in_ok-write_hex.ensures) in
    let x4 = x3 ++ codes ")" in
    let h4 = then_one old x3 (codes ")") h3 (c.in_ok-write_words.ensures) in
    h4
