use Rattle.ld_union.specs.Findings.{IsForbiddenRow, IsPairBefore, forbidden_key}
use Rattle.ld_union.specs.Violations.{IsForbidden}
use Rattle.ld_union.proofs.RowLemmas.{rows-states}
use Rattle.ld_union.proofs.findings.forbidden.forbidden_rows.Goals as goal

pub returns-clause-rows : goal.returns-clause-rows
returns-clause-rows c sources shows found =
    rows-states forbidden_key (IsForbiddenRow sources) (λ p. IsForbidden sources p.0 p.1.0 p.1.1) IsPairBefore c.in_ok-hard.hard c.in_ok-soft.soft
    (c.in_ok-hard.ensures.rows sources shows found)
    (c.in_ok-soft.ensures.rows sources shows found)

pub returns-clause-states : goal.returns-clause-states
returns-clause-states c = record { hard = c.in_ok-hard.ensures.state; soft = c.in_ok-soft.ensures.state }
