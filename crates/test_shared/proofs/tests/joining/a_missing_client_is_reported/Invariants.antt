use Rattle.test_shared.proofs.tests.joining.a_missing_client_is_reported.Given as goal

abbrev pub ghosts-fault_without_the_first : goal.ghosts-fault_without_the_first
ghosts-fault_without_the_first g a = record { name = a.blank.name; parts = a.blank.parts }
