use Rattle.test_shared.proofs.tests.telling.a_caller_reads_what_another_one_told_it.Given as goal

abbrev pub ghosts-new_server_serves_two_callers : goal.ghosts-new_server_serves_two_callers
ghosts-new_server_serves_two_callers g a = record { book = a.history.seen.book; root = a.history.turn.nib.key; limits = a.limits }
