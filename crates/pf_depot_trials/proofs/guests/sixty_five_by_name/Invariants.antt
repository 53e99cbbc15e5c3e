use Rattle.pf_depot_trials.proofs.guests.sixty_five_by_name.Given as goal

abbrev pub ghosts-sixty_five-C-Ledger : goal.ghosts-sixty_five-C-Ledger
ghosts-sixty_five-C-Ledger g a = record { name = a.credits.name; parts = a.credits.parts }

abbrev pub ghosts-sixty_five-H-Ledger : goal.ghosts-sixty_five-H-Ledger
ghosts-sixty_five-H-Ledger g a = record { name = a.held.name; parts = a.held.parts }
