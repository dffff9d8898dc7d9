use Rattle.test_shared.proofs.tests.joining.a_number_joins_once.Given as goal

abbrev pub ghosts-second_join_is_refused : goal.ghosts-second_join_is_refused
ghosts-second_join_is_refused g a = record { name = a.blank.name; parts = a.blank.parts }
