use Rattle.pf_service_waits_trials.proofs.overlap.both_beside.Given as goal

abbrev pub ghosts-both_beside_named-C-Ledger : goal.ghosts-both_beside_named-C-Ledger
ghosts-both_beside_named-C-Ledger g a = record { name = a.credits.name; parts = a.credits.parts }

abbrev pub ghosts-both_beside_named-H-Ledger : goal.ghosts-both_beside_named-H-Ledger
ghosts-both_beside_named-H-Ledger g a = record { name = a.held.name; parts = a.held.parts }
