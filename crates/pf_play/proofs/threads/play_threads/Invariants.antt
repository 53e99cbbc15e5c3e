use Rattle.pf_play.proofs.threads.play_threads.Given as goal

abbrev pub ghosts-play_for-C-Ledger : goal.ghosts-play_for-C-Ledger
ghosts-play_for-C-Ledger g a = record { name = a.credits.name; parts = a.credits.parts }

abbrev pub ghosts-play_for-H-Ledger : goal.ghosts-play_for-H-Ledger
ghosts-play_for-H-Ledger g a = record { name = a.held.name; parts = a.held.parts }
