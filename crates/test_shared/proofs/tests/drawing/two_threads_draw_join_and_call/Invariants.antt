use Rattle.test_shared.proofs.tests.drawing.two_threads_draw_join_and_call.Given as goal

abbrev pub ghosts-entries_after_two_visits : goal.ghosts-entries_after_two_visits
ghosts-entries_after_two_visits g a = record { name = a.blank.name; parts = a.blank.parts }
