use Rattle.test_shared.proofs.tests.serving.a_server_runs_calls_and_pending_steps.Given as goal

abbrev pub ghosts-new_server_serves_one_caller : goal.ghosts-new_server_serves_one_caller
ghosts-new_server_serves_one_caller g a = record { book = a.history.seen.book; root = a.history.turn.nib.key; limits = a.limits }
