use Rattle.pf_bench.proofs.worked.play_fixed.Given as goal

abbrev pub ghosts-plays-C-Ledger : goal.ghosts-plays-C-Ledger
ghosts-plays-C-Ledger g a = record { name = a.credits.name; parts = a.credits.parts }

abbrev pub ghosts-plays-H-Ledger : goal.ghosts-plays-H-Ledger
ghosts-plays-H-Ledger g a = record { name = a.held.name; parts = a.held.parts }
