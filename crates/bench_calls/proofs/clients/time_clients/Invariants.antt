use Rattle.bench_calls.proofs.clients.time_clients.Given as goal

abbrev pub ghosts-time_shared : goal.ghosts-time_shared
ghosts-time_shared g a = record { name = a.blank.name; parts = a.blank.parts }
