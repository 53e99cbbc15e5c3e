use Rattle.pf_worker_trials.proofs.jobs.all_numbers_by_name.Given as goal

abbrev pub ghosts-all_numbers-C-Ledger : goal.ghosts-all_numbers-C-Ledger
ghosts-all_numbers-C-Ledger g a = record { name = a.credits.name; parts = a.credits.parts }

abbrev pub ghosts-all_numbers-H-Ledger : goal.ghosts-all_numbers-H-Ledger
ghosts-all_numbers-H-Ledger g a = record { name = a.held.name; parts = a.held.parts }
