use Rattle.pf_service_trials.proofs.threads.two_threads.Given as goal

abbrev pub ghosts-two_threads_named-C-Ledger : goal.ghosts-two_threads_named-C-Ledger
ghosts-two_threads_named-C-Ledger g a = record { name = a.credits.name; parts = a.credits.parts }

abbrev pub ghosts-two_threads_named-H-Ledger : goal.ghosts-two_threads_named-H-Ledger
ghosts-two_threads_named-H-Ledger g a = record { name = a.held.name; parts = a.held.parts }
