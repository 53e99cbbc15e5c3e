use Rattle.pf_jobs.proofs.served.service.play.Given as goal

abbrev pub ghosts-play_by_name-C-Ledger : goal.ghosts-play_by_name-C-Ledger
ghosts-play_by_name-C-Ledger g a = record { name = a.credits.name; parts = a.credits.parts }

abbrev pub ghosts-play_by_name-H-Ledger : goal.ghosts-play_by_name-H-Ledger
ghosts-play_by_name-H-Ledger g a = record { name = a.held.name; parts = a.held.parts }
