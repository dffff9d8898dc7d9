use Rattle.test_shared.proofs.tests.joining.a_process_past_the_limit_is_refused.Given as goal

abbrev pub ghosts-number_past_limit_of_one : goal.ghosts-number_past_limit_of_one
ghosts-number_past_limit_of_one g a = record { name = a.blank.name; parts = a.blank.parts }
