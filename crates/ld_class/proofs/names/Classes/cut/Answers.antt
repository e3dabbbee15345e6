use Rattle.std.proofs.Common.{take, sym, ap, ◌∙◌, arith}
use Rattle.std.proofs.lemmas.List.{take-map}
use Rattle.ld_class.proofs.Shown.{shown, AreDistinct-shown}
use Rattle.ld_class.proofs.names.Classes.cut.Goals as goal

pub invariant_of-self : goal.invariant_of-self
invariant_of-self c = (
  omega (arith, c.truncate.ensures.len, c.self.invariant.0),
  AreDistinct-shown _ c.truncate.ensures.unique,
)

pub returns : goal.returns
returns c =
    ap shown c.truncate.ensures.keys ∙ sym (take-map _ c.args.n c.self.inside.names.keys)
    ∙ ap (take c.args.n) c.self.view_is
