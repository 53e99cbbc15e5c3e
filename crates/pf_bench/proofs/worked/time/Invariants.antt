use Rattle.pf_bench.proofs.worked.time.Given as goal

abbrev pub ghosts-times-C-Ledger : goal.ghosts-times-C-Ledger
ghosts-times-C-Ledger g a = record { name = a.credits.name; parts = a.credits.parts }

abbrev pub ghosts-times-H-Ledger : goal.ghosts-times-H-Ledger
ghosts-times-H-Ledger g a = record { name = a.held.name; parts = a.held.parts }
