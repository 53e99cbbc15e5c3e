use Rattle.pf_worker_trials.proofs.jobs.one_leaves_by_name.Given as goal

abbrev pub ghosts-one_leaves-C-Ledger : goal.ghosts-one_leaves-C-Ledger
ghosts-one_leaves-C-Ledger g a = record { name = a.credits.name; parts = a.credits.parts }

abbrev pub ghosts-one_leaves-H-Ledger : goal.ghosts-one_leaves-H-Ledger
ghosts-one_leaves-H-Ledger g a = record { name = a.held.name; parts = a.held.parts }
