use Rattle.example_threads.proofs.main.Given as goal

abbrev pub ghosts-share_node : goal.ghosts-share_node
ghosts-share_node g a = record { name = a.blank.name; parts = a.blank.parts }
