use Rattle.ld_work_tests.proofs.submits.a_long_trace_is_submitted.Given as goal

abbrev pub ghosts-one_feeder-T-Ledger : goal.ghosts-one_feeder-T-Ledger
ghosts-one_feeder-T-Ledger g a = record { name = a.traces.name; parts = a.traces.parts }

abbrev pub ghosts-one_feeder-E-Ledger : goal.ghosts-one_feeder-E-Ledger
ghosts-one_feeder-E-Ledger g a = record { name = a.events.name; parts = a.events.parts }
