use Rattle.ld_work_tests.proofs.batch_submits.a_submitted_batch_stays.Given as goal

abbrev pub ghosts-kept_batch-T-Ledger : goal.ghosts-kept_batch-T-Ledger
ghosts-kept_batch-T-Ledger g a = record { name = a.traces.name; parts = a.traces.parts }

abbrev pub ghosts-kept_batch-E-Ledger : goal.ghosts-kept_batch-E-Ledger
ghosts-kept_batch-E-Ledger g a = record { name = a.events.name; parts = a.events.parts }
