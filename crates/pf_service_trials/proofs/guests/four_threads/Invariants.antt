use Rattle.pf_service_trials.proofs.guests.four_threads.Given as goal

abbrev pub ghosts-four_threads_named-C-Ledger : goal.ghosts-four_threads_named-C-Ledger
ghosts-four_threads_named-C-Ledger g a = record { name = a.credits.name; parts = a.credits.parts }

abbrev pub ghosts-four_threads_named-H-Ledger : goal.ghosts-four_threads_named-H-Ledger
ghosts-four_threads_named-H-Ledger g a = record { name = a.held.name; parts = a.held.parts }
