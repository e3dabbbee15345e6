use Rattle.std.proofs.Common.{◌++◌, ◌∙◌, FitsSigned, ap, codes, decimal, rules, w32}
use Rattle.std.specs.Fmt.{signed_decimal}
use Rattle.std.proofs.lemmas.Int.{to_z-of_z}
use Rattle.ld_printed.proofs.PieceLemmas.{first, then_two}
use Rattle.ld_printed.proofs.event.write_end.Goals as goal

pub returns : goal.returns
returns c =
    let old = c.args.out.now.items in
    let s = c.args.step.now in
    let step_fits : FitsSigned w32 s.step = search rules in
    let status_fits : FitsSigned w32 s.status = search rules in
    let x1 = codes "cpuhp_exit: cpu: " ++ decimal s.processor in
    let h1 = first old (codes "cpuhp_exit: cpu: ") (decimal s.processor) (c.in_ok-write_number.ensures) in
    let x2 = x1 ++ codes " state: 0 step: " ++ signed_decimal s.step in
    let h2 = then_two old x1 (codes " state: 0 step: ") (signed_decimal s.step) h1 (c.in_ok-write_signed.ensures ∙ ap (λ z. c.write_number.new.out.items ++ codes " state: 0 step: " ++ signed_decimal z) (to_z-of_z w32 s.step step_fits)) in
    let x3 = x2 ++ codes " ret: " ++ signed_decimal s.status in
    let h3 = then_two old x2 (codes " ret: ") (signed_decimal s.status) h2 (c.in_ok-write_signed-2.ensures ∙ ap (λ z. c.write_signed.new.out.items ++ codes " ret: " ++ signed_decimal z) (to_z-of_z w32 s.status status_fits)) in
    h3
