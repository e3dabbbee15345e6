use Rattle.std.proofs.Common.{◌≡◌, ◌∙◌, None, Some, ap, get_or, set, sym}
use Rattle.ld_class.specs.Usage.{either}
use Rattle.ld_rules.specs.Usage.{bit_of}
use Rattle.ld_union.specs.Inner.Union.{earlier_of}
use Rattle.ld_union.proofs.UsageLemmas.{row_then}
use Rattle.ld_union.proofs.usage.UsageRow.note.Goals as goal
use Rattle.ld_union.proofs.usage.UsageRow.note.Goals.{in-Some, in-None}

pub returns-clause-noted : goal.returns-clause-noted
returns-clause-noted c first is =
    let row = c.args.self.now in
    let place = c.place_of-place.result in
    let witness = c.args.witness in
    let least : Some c.match-self-place.earliest ≡ earlier_of (get_or row.first place None) (Some witness) = elim c.match-self-place.branch [
      | in-Some w ↦ ap Some (w.earliest-is ∙ w.first_of-earliest.ensures) ∙ ap (λ before. earlier_of before (Some witness)) (sym w.in-Some.is)
      | in-None w ↦ ap Some w.earliest-is ∙ ap (λ before. earlier_of before (Some witness)) (sym w.in-None.is)
    ] in
    ap (λ bits. record { bits = bits; first = set row.first place (Some c.match-self-place.earliest) }) (c.bitor_assign.ensures.after ∙ ap (either row.bits) c.requires)
    ∙ row_then first witness (bit_of c.args.bit) row place (Some c.match-self-place.earliest) is c.place_of-place.ensures least
