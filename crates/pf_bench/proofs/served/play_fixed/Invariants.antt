use Rattle.pf_bench.proofs.served.play_fixed.Given as goal

abbrev pub ghosts-all_agree-C-Ledger : goal.ghosts-all_agree-C-Ledger
ghosts-all_agree-C-Ledger g a = record { name = a.credits.name; parts = a.credits.parts }

abbrev pub ghosts-all_agree-H-Ledger : goal.ghosts-all_agree-H-Ledger
ghosts-all_agree-H-Ledger g a = record { name = a.held.name; parts = a.held.parts }
