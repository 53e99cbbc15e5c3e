use Rattle.pf_worker_trials.proofs.jobs.asks_for_too_many_by_name.Given as goal

abbrev pub ghosts-asks_for_too_many-C-Ledger : goal.ghosts-asks_for_too_many-C-Ledger
ghosts-asks_for_too_many-C-Ledger g a = record { name = a.credits.name; parts = a.credits.parts }

abbrev pub ghosts-asks_for_too_many-H-Ledger : goal.ghosts-asks_for_too_many-H-Ledger
ghosts-asks_for_too_many-H-Ledger g a = record { name = a.held.name; parts = a.held.parts }
