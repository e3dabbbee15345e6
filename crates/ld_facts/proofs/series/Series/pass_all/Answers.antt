use Rattle.std.proofs.Common.{◌++◌, ◌∙◌, arith}
use Rattle.ld_facts.proofs.SeriesLemmas.{all-behind}
use Rattle.ld_facts.proofs.series.Series.pass_all.Goals as goal

pub returns-clause-behind : goal.returns-clause-behind
returns-clause-behind c =
    all-behind c.self.inside.listed.items _ c.self.inside.passed.traces (omega (arith, c.len.ensures))
    ∙ (λ i. (c.self.view_is i).behind ++ (c.self.view_is i).sources)
