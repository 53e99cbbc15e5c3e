use Rattle.pf_depot_trials.proofs.guests.past_the_slack_by_name.Given as goal

abbrev pub ghosts-past_the_slack-C-Ledger : goal.ghosts-past_the_slack-C-Ledger
ghosts-past_the_slack-C-Ledger g a = record { name = a.credits.name; parts = a.credits.parts }

abbrev pub ghosts-past_the_slack-H-Ledger : goal.ghosts-past_the_slack-H-Ledger
ghosts-past_the_slack-H-Ledger g a = record { name = a.held.name; parts = a.held.parts }
