use Rattle.pf_worker_trials.proofs.jobs.two_threads_by_name.Given as goal

abbrev pub ghosts-on_two_threads-C-Ledger : goal.ghosts-on_two_threads-C-Ledger
ghosts-on_two_threads-C-Ledger g a = record { name = a.credits.name; parts = a.credits.parts }

abbrev pub ghosts-on_two_threads-H-Ledger : goal.ghosts-on_two_threads-H-Ledger
ghosts-on_two_threads-H-Ledger g a = record { name = a.held.name; parts = a.held.parts }
