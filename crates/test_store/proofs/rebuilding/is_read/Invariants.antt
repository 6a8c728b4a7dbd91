use Rattle.test_store.proofs.rebuilding.is_read.Given as goal

abbrev pub ghosts-has_entries : goal.ghosts-has_entries
ghosts-has_entries a = record { name = a.blank.name; parts = a.blank.parts }

abbrev pub ghosts-has_marks : goal.ghosts-has_marks
ghosts-has_marks a = record { name = a.blank.name; parts = a.blank.parts }
