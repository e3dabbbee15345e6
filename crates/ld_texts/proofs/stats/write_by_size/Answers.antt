use Rattle.std.specs.Prelude.{codes}
use Rattle.ld_texts.specs.Stats.{figure_line}
use Rattle.ld_texts.proofs.StatsLemmas.{joined}
use Rattle.ld_texts.proofs.stats.write_by_size.Goals as goal

pub returns : goal.returns
returns c = joined _ c.args.text.now.items _ _ (figure_line (codes "cyclic-components", c.args.cyclic)) _ c.in_ok-write_figure.ensures c.write_sizes.ensures
