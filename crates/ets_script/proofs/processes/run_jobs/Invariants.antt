use Rattle.ets_script.proofs.processes.run_jobs.Given as goal

abbrev pub ghosts-run_with_ledger : goal.ghosts-run_with_ledger
ghosts-run_with_ledger g a = record { name = a.blank.name; parts = a.blank.parts }
