use Rattle.test_shared.proofs.tests.keeping.keep_runs_a_pending_step_in_each_turn.Given as goal

abbrev pub ghosts-pending_steps_run : goal.ghosts-pending_steps_run
ghosts-pending_steps_run g a = record { name = a.blank.name; parts = a.blank.parts }
