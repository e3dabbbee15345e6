use Rattle.std.proofs.Common.{◌≡◌, ◌∙◌, ap, arith, length, sym}
use Rattle.std.proofs.lemmas.List.{length-map}
use Rattle.ld_union.specs.Inner.Parts.{part_of}
use Rattle.ld_union.proofs.findings.forbidden_rows.WalkList.len.Goals as goal

pub returns-clause-few : goal.returns-clause-few
returns-clause-few c =
    let parts = c.self.inside.parts.items in
    let same : length parts ≡ length c.args.self.now = sym (length-map parts (part_of c.self.inside.numbers.items)) ∙ ap length c.self.view_is in
    let t = c.as_slice.type_inv in
    omega (arith, same, t, c.as_slice.ensures.len)
