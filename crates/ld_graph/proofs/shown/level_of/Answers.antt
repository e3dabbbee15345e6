use Rattle.std.proofs.Common.{None, sym, ◌∙◌}
use Rattle.std.proofs.lemmas.List.{get_or_default}
use Rattle.ld_graph.proofs.shown.level_of.Goals as goal

pub returns : goal.returns
returns c = c.get.ensures ∙ c.index-levels-class.is ∙ sym (get_or_default c.args.levels.now c.args.class None c.index-levels-class.result c.requires)
