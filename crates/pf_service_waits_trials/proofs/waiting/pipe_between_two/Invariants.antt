use Rattle.pf_service_waits_trials.proofs.waiting.pipe_between_two.Given as goal

abbrev pub ghosts-pipe_between_two_named-C-Ledger : goal.ghosts-pipe_between_two_named-C-Ledger
ghosts-pipe_between_two_named-C-Ledger g a = record { name = a.credits.name; parts = a.credits.parts }

abbrev pub ghosts-pipe_between_two_named-H-Ledger : goal.ghosts-pipe_between_two_named-H-Ledger
ghosts-pipe_between_two_named-H-Ledger g a = record { name = a.held.name; parts = a.held.parts }
