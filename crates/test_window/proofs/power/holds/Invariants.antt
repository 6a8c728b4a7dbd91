use Rattle.test_window.proofs.power.holds.Given as goal

abbrev pub ghosts-sought : goal.ghosts-sought
ghosts-sought a = record { name = a.blank.name; parts = a.blank.parts }
