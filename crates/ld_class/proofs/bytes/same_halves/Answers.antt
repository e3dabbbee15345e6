use Rattle.std.proofs.Common.{◌-◌, length, drop, sym, ap, ◌∙◌, arith}
use Rattle.std.proofs.lemmas.Slice.Eq.{bytes_eq-Decides}
use Rattle.std.specs.Bool.{one_answer}
use Rattle.ld_class.proofs.ByteLemmas.{ends-same}
use Rattle.ld_class.proofs.bytes.same_halves.Goals as goal

pub returns-then-same_four : goal.returns-then-same_four
returns-then-same_four c =
    let m = c.in-Some-Some-Some-Some in
    let a = c.args.a.now in
    let b = c.args.b.now in
    let first = m.ensures.cases in
    let other_first = m.ensures'.cases in
    let last = m.ensures''.cases in
    let other_last = m.ensures'''.cases in
    let same_first = bytes_eq-Decides m.first.now m.other_first.now in
    let same_last = bytes_eq-Decides m.last.now m.other_last.now in
    one_answer _ _ (
      λ t. ends-same 4 a b c.requires last.0 (omega (arith, c.if-a-gt8.false))
          (sym first.same ∙ same_first.0 (sym c.if-same_four.ensures) ∙ other_first.same)
          (sym last.1.same ∙ same_last.0 (sym c.same_four-then-same_four.ensures ∙ t) ∙ other_last.1.same),
      λ same. c.same_four-then-same_four.ensures ∙ same_last.1 (last.1.same ∙ ap (λ l. drop (length l - 4) l) same ∙ sym other_last.1.same),
    )
    (bytes_eq-Decides a b)
