use Rattle.test_shared.proofs.tests.entering.steps_and_pending_steps_are_in_the_journal.Given as goal

abbrev pub ghosts-new_book_enters_steps : goal.ghosts-new_book_enters_steps
ghosts-new_book_enters_steps g a = record { name = a.blank.name; parts = a.blank.parts }
