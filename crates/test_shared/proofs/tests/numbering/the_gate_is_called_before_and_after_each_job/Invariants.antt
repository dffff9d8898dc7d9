use Rattle.test_shared.proofs.tests.numbering.the_gate_is_called_before_and_after_each_job.Given as goal

abbrev pub ghosts-log_of_four : goal.ghosts-log_of_four
ghosts-log_of_four g a = record { name = a.blank.name; parts = a.blank.parts }
