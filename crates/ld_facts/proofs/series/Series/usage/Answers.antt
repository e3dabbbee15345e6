use Rattle.std.proofs.Common.{subst}
use Rattle.ld_batch.specs.Batch.{IsShown}
use Rattle.ld_facts.proofs.SeriesLemmas.{series-exact}
use Rattle.ld_facts.proofs.series.Series.usage.Goals as goal

pub returns-clause-exact : goal.returns-clause-exact
returns-clause-exact c = subst IsShown c.self.view_is (series-exact _ c.self.invariant)
