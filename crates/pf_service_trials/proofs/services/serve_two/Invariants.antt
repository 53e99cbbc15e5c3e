use Rattle.pf_service_trials.proofs.services.serve_two.Given as goal

abbrev pub ghosts-serve_two_named-C-Ledger : goal.ghosts-serve_two_named-C-Ledger
ghosts-serve_two_named-C-Ledger g a = record { name = a.credits.name; parts = a.credits.parts }

abbrev pub ghosts-serve_two_named-H-Ledger : goal.ghosts-serve_two_named-H-Ledger
ghosts-serve_two_named-H-Ledger g a = record { name = a.held.name; parts = a.held.parts }

abbrev pub ghosts-serve_two_named-D-Ledger : goal.ghosts-serve_two_named-D-Ledger
ghosts-serve_two_named-D-Ledger g a = record { name = a.spare.name; parts = a.spare.parts }

abbrev pub ghosts-serve_two_named-L-Ledger : goal.ghosts-serve_two_named-L-Ledger
ghosts-serve_two_named-L-Ledger g a = record { name = a.lent.name; parts = a.lent.parts }
