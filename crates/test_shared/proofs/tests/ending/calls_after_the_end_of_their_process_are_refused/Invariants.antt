use Rattle.test_shared.proofs.tests.ending.calls_after_the_end_of_their_process_are_refused.Given as goal

abbrev pub ghosts-both_are_refused_after_end : goal.ghosts-both_are_refused_after_end
ghosts-both_are_refused_after_end g a = record { name = a.blank.name; parts = a.blank.parts }
