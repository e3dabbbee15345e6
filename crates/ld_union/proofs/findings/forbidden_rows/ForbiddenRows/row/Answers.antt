use Rattle.std.proofs.Common.{◌≡◌, ◌<◌, ◌∙◌, List, All, ap, arith, get_or, length, map, subst, sym}
use Rattle.std.proofs.lemmas.List.{get_or-map, length-map}
use Rattle.ld_class.specs.Names.{PlainClass, no_class}
use Rattle.ld_rules.specs.Usage.Bit.{In, On}
use Rattle.ld_union.specs.Forbidden.{PlainForbiddenRow}
use Rattle.ld_union.specs.Inner.Walks.{IsWithin, NumberedWalk, first_at, walk_row}
use Rattle.ld_union.proofs.WitnessLemmas.{bit_of-usage_of}
use Rattle.ld_union.proofs.findings.forbidden_rows.ForbiddenRows.row.Goals as goal

pub used_class-acquired-requires-clause-class : goal.used_class-acquired-requires-clause-class
used_class-acquired-requires-clause-class c =
    let walks = c.self.inside.walks in
    let union = c.self.inside.union.now in
    let walk : NumberedWalk = record { from = c.walk-walk.result.from; to = c.walk-walk.result.to; via = c.walk-walk.result.via.now } in
    let low : c.args.place < length walks = let rows = ap length c.self.view_is in let same = length-map walks (walk_row union c.self.inside.state) in omega (arith, c.requires, rows, same) in
    (subst (IsWithin (length union.classes)) (sym (c.walk-walk.ensures walk)) (c.self.invariant c.args.place walk low)).from

pub used_class-held-requires-clause-class : goal.used_class-held-requires-clause-class
used_class-held-requires-clause-class c =
    let walks = c.self.inside.walks in
    let union = c.self.inside.union.now in
    let walk : NumberedWalk = record { from = c.walk-walk.result.from; to = c.walk-walk.result.to; via = c.walk-walk.result.via.now } in
    let low : c.args.place < length walks = let rows = ap length c.self.view_is in let same = length-map walks (walk_row union c.self.inside.state) in omega (arith, c.requires, rows, same) in
    (subst (IsWithin (length union.classes)) (sym (c.walk-walk.ensures walk)) (c.self.invariant c.args.place walk low)).to

pub new-requires : goal.new-requires
new-requires c =
    let walks = c.self.inside.walks in
    let union = c.self.inside.union.now in
    let walk : NumberedWalk = record { from = c.walk-walk.result.from; to = c.walk-walk.result.to; via = c.walk-walk.result.via.now } in
    let low : c.args.place < length walks = let rows = ap length c.self.view_is in let same = length-map walks (walk_row union c.self.inside.state) in omega (arith, c.requires, rows, same) in
    subst (λ (names : List PlainClass). All (λ k. k < length names) walk.via) (sym c.classes.ensures.same)
    (subst (IsWithin (length union.classes)) (sym (c.walk-walk.ensures walk)) (c.self.invariant c.args.place walk low)).via

pub returns : goal.returns
returns c other =
    let walks = c.self.inside.walks in
    let union = c.self.inside.union.now in
    let state = c.self.inside.state in
    let walk : NumberedWalk = record { from = c.walk-walk.result.from; to = c.walk-walk.result.to; via = c.walk-walk.result.via.now } in
    let low : c.args.place < length walks = let rows = ap length c.self.view_is in let same = length-map walks (walk_row union state) in omega (arith, c.requires, rows, same) in
    let there : get_or c.args.self.now c.args.place other ≡ walk_row union state walk =
    ap (λ (rows : List PlainForbiddenRow). get_or rows c.args.place other) (sym c.self.view_is)
    ∙ get_or-map (walk_row union state) walks c.args.place walk other low
    ∙ ap (walk_row union state) (sym (c.walk-walk.ensures walk)) in
    let safe = c.used_class-acquired.ensures.at ∙ ap (first_at union walk.from) (bit_of-usage_of (In state) c.in_bit.result c.in_bit.ensures) in
    let exposed = c.used_class-held.ensures.at ∙ ap (first_at union walk.to) (bit_of-usage_of (On state) c.on_bit.result c.on_bit.ensures) in
    let names = c.new.ensures ∙ ap (λ (classes : List PlainClass). map (λ n. get_or classes n no_class) walk.via) c.classes.ensures.same in
    (λ i. record {
      state = state;
      from = c.used_class-acquired.ensures.name i;
      from_marks = c.used_class-acquired.ensures.marks i;
      safe_at = safe i;
      to = c.used_class-held.ensures.name i;
      to_marks = c.used_class-held.ensures.marks i;
      unsafe_at = exposed i;
      via = names i;
    }) ∙ sym there
