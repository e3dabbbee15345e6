use Rattle.std.proofs.Common.{◌≡◌, ◌++◌, ℕ, List, drop}
use Rattle.std.specs.Prelude.{codes, filter, length, map}
use Rattle.ld_rules.specs.Outcome.{name_of}
use Rattle.ld_rules.specs.declared.fault.TraceFault.{TraceFault}
use Rattle.ld_texts.specs.Stats.{figure_lines, is_refused_for}
use Rattle.ld_texts.proofs.stats.write_refused.Given as goal

-- with the lines of the faults that are left it is the whole text
abbrev pub invariant-loop-fault : goal.invariant-loop-fault
invariant-loop-fault l =
    l.text.items ++ figure_lines (map figure (drop l.fault-index l.faults)) ≡ l.fn.text.items ++ figure_lines (map figure l.faults)
  where
    figure : TraceFault → List ℕ × ℕ
    figure fault = (codes "refused-" ++ name_of fault, length (filter (λ trace. is_refused_for (name_of fault) trace.outcome) l.listed))
