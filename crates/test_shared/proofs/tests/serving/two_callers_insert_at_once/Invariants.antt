use Rattle.test_shared.proofs.tests.serving.two_callers_insert_at_once.Given as goal

abbrev pub ghosts-objects_of_new_server : goal.ghosts-objects_of_new_server
ghosts-objects_of_new_server g a = record { book = a.history.seen.book; root = a.history.turn.nib.key; limits = a.limits }
