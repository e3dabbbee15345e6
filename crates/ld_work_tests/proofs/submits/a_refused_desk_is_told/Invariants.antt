use Rattle.ld_work_tests.proofs.submits.a_refused_desk_is_told.Given as goal

abbrev pub ghosts-sixteen_or_none-T-Ledger : goal.ghosts-sixteen_or_none-T-Ledger
ghosts-sixteen_or_none-T-Ledger g a = record { name = a.traces.name; parts = a.traces.parts }

abbrev pub ghosts-sixteen_or_none-E-Ledger : goal.ghosts-sixteen_or_none-E-Ledger
ghosts-sixteen_or_none-E-Ledger g a = record { name = a.events.name; parts = a.events.parts }
