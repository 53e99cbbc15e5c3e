use Rattle.pf_refusals.proofs.parking.play.Given as goal

abbrev pub ghosts-play_over-C-Ledger : goal.ghosts-play_over-C-Ledger
ghosts-play_over-C-Ledger g a = record { name = a.credits.name; parts = a.credits.parts }

abbrev pub ghosts-play_over-H-Ledger : goal.ghosts-play_over-H-Ledger
ghosts-play_over-H-Ledger g a = record { name = a.held.name; parts = a.held.parts }
