use Rattle.pf_service_waits_trials.proofs.waiting.pipe_among_three.Given as goal

abbrev pub ghosts-pipe_among_three_named-C-Ledger : goal.ghosts-pipe_among_three_named-C-Ledger
ghosts-pipe_among_three_named-C-Ledger g a = record { name = a.credits.name; parts = a.credits.parts }

abbrev pub ghosts-pipe_among_three_named-H-Ledger : goal.ghosts-pipe_among_three_named-H-Ledger
ghosts-pipe_among_three_named-H-Ledger g a = record { name = a.held.name; parts = a.held.parts }
