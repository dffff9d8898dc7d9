use Rattle.test_shared.proofs.tests.stressing.two_rounds_are_right.Given as goal

abbrev pub ghosts-new_server_is_right : goal.ghosts-new_server_is_right
ghosts-new_server_is_right g a = record { book = a.history.seen.book; root = a.history.turn.nib.key; limits = a.limits }
