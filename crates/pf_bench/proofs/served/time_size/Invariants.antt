use Rattle.pf_bench.proofs.served.time_size.Given as goal

abbrev pub ghosts-time_this-C-Ledger : goal.ghosts-time_this-C-Ledger
ghosts-time_this-C-Ledger g a = record { name = a.credits.name; parts = a.credits.parts }

abbrev pub ghosts-time_this-H-Ledger : goal.ghosts-time_this-H-Ledger
ghosts-time_this-H-Ledger g a = record { name = a.held.name; parts = a.held.parts }
