use Rattle.pf_service_waits_trials.proofs.polls.polled.Given as goal

abbrev pub ghosts-polled_named-C-Ledger : goal.ghosts-polled_named-C-Ledger
ghosts-polled_named-C-Ledger g a = record { name = a.credits.name; parts = a.credits.parts }

abbrev pub ghosts-polled_named-H-Ledger : goal.ghosts-polled_named-H-Ledger
ghosts-polled_named-H-Ledger g a = record { name = a.held.name; parts = a.held.parts }
