use Rattle.test_window.proofs.landmarks.is_told.Given as goal

abbrev pub ghosts-has_free : goal.ghosts-has_free
ghosts-has_free a = record { name = a.blank.name; parts = a.blank.parts }
