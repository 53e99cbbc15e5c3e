use Rattle.pf_service_waits_trials.proofs.woken.last_replies.Given as goal

abbrev pub ghosts-last_replies_named-C-Ledger : goal.ghosts-last_replies_named-C-Ledger
ghosts-last_replies_named-C-Ledger g a = record { name = a.credits.name; parts = a.credits.parts }

abbrev pub ghosts-last_replies_named-H-Ledger : goal.ghosts-last_replies_named-H-Ledger
ghosts-last_replies_named-H-Ledger g a = record { name = a.held.name; parts = a.held.parts }
