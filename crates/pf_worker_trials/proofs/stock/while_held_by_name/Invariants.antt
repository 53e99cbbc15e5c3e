use Rattle.pf_worker_trials.proofs.stock.while_held_by_name.Given as goal

abbrev pub ghosts-while_held-C-Ledger : goal.ghosts-while_held-C-Ledger
ghosts-while_held-C-Ledger g a = record { name = a.credits.name; parts = a.credits.parts }

abbrev pub ghosts-while_held-H-Ledger : goal.ghosts-while_held-H-Ledger
ghosts-while_held-H-Ledger g a = record { name = a.held.name; parts = a.held.parts }
