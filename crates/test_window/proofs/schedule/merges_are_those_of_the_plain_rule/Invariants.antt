use Rattle.test_window.proofs.schedule.merges_are_those_of_the_plain_rule.Given as goal

abbrev pub ghosts-agrees : goal.ghosts-agrees
ghosts-agrees g a = record { name = a.blank.name; parts = a.blank.parts }
