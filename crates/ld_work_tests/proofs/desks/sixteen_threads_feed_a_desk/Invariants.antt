use Rattle.ld_work_tests.proofs.desks.sixteen_threads_feed_a_desk.Given as goal

abbrev pub ghosts-sixteen_feeders-T-Ledger : goal.ghosts-sixteen_feeders-T-Ledger
ghosts-sixteen_feeders-T-Ledger g a = record { name = a.traces.name; parts = a.traces.parts }

abbrev pub ghosts-sixteen_feeders-E-Ledger : goal.ghosts-sixteen_feeders-E-Ledger
ghosts-sixteen_feeders-E-Ledger g a = record { name = a.events.name; parts = a.events.parts }
