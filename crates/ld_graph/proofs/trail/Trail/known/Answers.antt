use Rattle.std.proofs.Common.{◌<◌, ◌∙◌, ap, get_or, length, subst}
use Rattle.ld_graph.specs.declared.trail.Stage.TheVariants.{Fresh}
use Rattle.ld_graph.proofs.trail.Trail.known.Goals as goal

pub unreachable-requires : goal.unreachable-requires
unreachable-requires c =
    let stages = c.args.self.now.stages.items in
    let k = c.loop-stage.stage-index in
    let within : k < length stages = subst (λ l. k < length l) c.deref-stage-items.ensures.value c.loop-stage-test.true in
    let known = c.requires k within in
    c.in_default.not-Closed known.0 (ap (λ l. get_or l k Fresh) c.deref-stage-items.ensures.value ∙ known.1)
