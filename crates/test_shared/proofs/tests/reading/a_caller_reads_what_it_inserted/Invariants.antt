use Rattle.test_shared.proofs.tests.reading.a_caller_reads_what_it_inserted.Given as goal

abbrev pub ghosts-new_server_replies_to_reads : goal.ghosts-new_server_replies_to_reads
ghosts-new_server_replies_to_reads g a = record { book = a.history.seen.book; root = a.history.turn.nib.key; limits = a.limits }
