use Rattle.pf_service_trials.proofs.services.serve.Given as goal

abbrev pub ghosts-serve_named-C-Ledger : goal.ghosts-serve_named-C-Ledger
ghosts-serve_named-C-Ledger g a = record { name = a.credits.name; parts = a.credits.parts }

abbrev pub ghosts-serve_named-H-Ledger : goal.ghosts-serve_named-H-Ledger
ghosts-serve_named-H-Ledger g a = record { name = a.held.name; parts = a.held.parts }
