use Rattle.std.proofs.Common.{rules, ◌≡◌, ◌∷◌, ◌++◌, [], ◌∙◌, List, ap, length, map, refl}
use Rattle.ld_union.specs.declared.findings.forbidden_rows.Part.{Part}
use Rattle.ld_union.specs.Inner.Parts.{part_of}
use Rattle.ld_union.specs.Inner.Walks.{NumberedWalk}
use Rattle.ld_union.proofs.PartLemmas.{parts-push}
use Rattle.ld_union.proofs.findings.forbidden_rows.WalkList.push.Goals as goal

pub returns : goal.returns
returns c =
    let numbers = c.self.inside.numbers.items in
    let parts = c.self.inside.parts.items in
    let via = c.args.via.now in
    let part : Part = record { from = c.args.from; to = c.args.to; start = c.len-start.result; len = length via } in
    let start : c.len-start.result ≡ length numbers = search rules in
    let walk : NumberedWalk = record { from = c.args.from; to = c.args.to; via = via } in
    (λ i. map (part_of (c.in_ok-extend_from_slice.ensures.items i)) (c.in_ok-push.ensures.items i))
    ∙ parts-push numbers via parts part c.self.invariant start refl
    ∙ ap (λ (walks : List NumberedWalk). walks ++ walk ∷ []) c.self.view_is
