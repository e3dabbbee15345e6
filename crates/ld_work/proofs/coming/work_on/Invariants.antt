use Rattle.std.specs.Prelude.{Some, map}
use Rattle.std.specs.List.{Contains}
use Rattle.ld_trace.specs.Sources.{plain}
use Rattle.ld_work.proofs.coming.work_on.Given as goal

abbrev pub ghosts-work_on_at-T-Ledger : goal.ghosts-work_on_at-T-Ledger
ghosts-work_on_at-T-Ledger g a = record { name = a.traces.name; parts = a.traces.parts }

abbrev pub ghosts-work_on_at-E-Ledger : goal.ghosts-work_on_at-E-Ledger
ghosts-work_on_at-E-Ledger g a = record { name = a.events.name; parts = a.events.parts }

abbrev pub ghosts-work_on_at-H-Room : goal.ghosts-work_on_at-H-Room
ghosts-work_on_at-H-Room g a = record { history = Some a.opened }
