use Rattle.test_shared.proofs.tests.enduring.two_rounds_are_complete.Given as goal

abbrev pub ghosts-entries_of_round : goal.ghosts-entries_of_round
ghosts-entries_of_round g a = record { name = a.blank.name; parts = a.blank.parts }
