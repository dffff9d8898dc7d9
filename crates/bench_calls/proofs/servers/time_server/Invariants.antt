use Rattle.bench_calls.proofs.servers.time_server.Given as goal

abbrev pub ghosts-time_server_within : goal.ghosts-time_server_within
ghosts-time_server_within g a = record { book = a.history.seen.book; root = a.history.turn.nib.key; limits = a.limits }
