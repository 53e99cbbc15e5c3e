use Rattle.pf_service_trials.proofs.threads.eight_times_eight.Given as goal

abbrev pub ghosts-eight_times_eight_named-C-Ledger : goal.ghosts-eight_times_eight_named-C-Ledger
ghosts-eight_times_eight_named-C-Ledger g a = record { name = a.credits.name; parts = a.credits.parts }

abbrev pub ghosts-eight_times_eight_named-H-Ledger : goal.ghosts-eight_times_eight_named-H-Ledger
ghosts-eight_times_eight_named-H-Ledger g a = record { name = a.held.name; parts = a.held.parts }
