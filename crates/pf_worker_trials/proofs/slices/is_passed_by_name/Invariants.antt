use Rattle.pf_worker_trials.proofs.slices.is_passed_by_name.Given as goal

abbrev pub ghosts-is_passed-C-Ledger : goal.ghosts-is_passed-C-Ledger
ghosts-is_passed-C-Ledger g a = record { name = a.credits.name; parts = a.credits.parts }

abbrev pub ghosts-is_passed-H-Ledger : goal.ghosts-is_passed-H-Ledger
ghosts-is_passed-H-Ledger g a = record { name = a.held.name; parts = a.held.parts }
