use Rattle.test_shared.proofs.tests.meeting.one_client_reads_what_another_inserts_meanwhile.Given as goal

abbrev pub ghosts-entries_after_meeting : goal.ghosts-entries_after_meeting
ghosts-entries_after_meeting g a = record { name = a.blank.name; parts = a.blank.parts }
