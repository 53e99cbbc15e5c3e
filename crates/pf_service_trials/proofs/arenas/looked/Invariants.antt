use Rattle.pf_service_trials.proofs.arenas.looked.Given as goal

abbrev pub ghosts-looked_named-C-Ledger : goal.ghosts-looked_named-C-Ledger
ghosts-looked_named-C-Ledger g a = record { name = a.credits.name; parts = a.credits.parts }

abbrev pub ghosts-looked_named-H-Ledger : goal.ghosts-looked_named-H-Ledger
ghosts-looked_named-H-Ledger g a = record { name = a.held.name; parts = a.held.parts }
