use Rattle.std.specs.Prelude.{Some, map}
use Rattle.std.specs.List.{Contains}
use Rattle.ld_trace.specs.Sources.{plain}
use Rattle.ld_work.proofs.workers.work_by.Given as goal

abbrev pub ghosts-work_at-T-Ledger : goal.ghosts-work_at-T-Ledger
ghosts-work_at-T-Ledger g a = record { name = a.traces.name; parts = a.traces.parts }

abbrev pub ghosts-work_at-E-Ledger : goal.ghosts-work_at-E-Ledger
ghosts-work_at-E-Ledger g a = record { name = a.events.name; parts = a.events.parts }

-- the desk lists nothing but the sources
abbrev pub ghosts-work_at-S-Scope : goal.ghosts-work_at-S-Scope
ghosts-work_at-S-Scope g a = record { may_list = λ source. Contains (map plain a.sources.now) source }

abbrev pub ghosts-work_at-H-Room : goal.ghosts-work_at-H-Room
ghosts-work_at-H-Room g a = record { history = Some a.opened }
