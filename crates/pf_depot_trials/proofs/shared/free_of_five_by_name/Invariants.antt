use Rattle.pf_depot_trials.proofs.shared.free_of_five_by_name.Given as goal

abbrev pub ghosts-free_of_five-C-Ledger : goal.ghosts-free_of_five-C-Ledger
ghosts-free_of_five-C-Ledger g a = record { name = a.credits.name; parts = a.credits.parts }

abbrev pub ghosts-free_of_five-H-Ledger : goal.ghosts-free_of_five-H-Ledger
ghosts-free_of_five-H-Ledger g a = record { name = a.held.name; parts = a.held.parts }
