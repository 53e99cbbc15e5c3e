use Rattle.pf_service_trials.proofs.arenas.played.Given as goal

abbrev pub ghosts-played_named-C-Ledger : goal.ghosts-played_named-C-Ledger
ghosts-played_named-C-Ledger g a = record { name = a.credits.name; parts = a.credits.parts }

abbrev pub ghosts-played_named-H-Ledger : goal.ghosts-played_named-H-Ledger
ghosts-played_named-H-Ledger g a = record { name = a.held.name; parts = a.held.parts }
