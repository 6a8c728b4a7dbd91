use Rattle.test_window.proofs.power.power_sums.Given as goal

abbrev pub ghosts-sums : goal.ghosts-sums
ghosts-sums g a = record { name = a.blank.name; parts = a.blank.parts }

abbrev pub ghosts-sums_at_caps : goal.ghosts-sums_at_caps
ghosts-sums_at_caps g a = record { name = a.blank.name; parts = a.blank.parts }
