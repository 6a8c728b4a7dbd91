use Rattle.test_window.proofs.steps.a_caller_that_counts_nothing.Given as goal

abbrev pub ghosts-two_uncounted : goal.ghosts-two_uncounted
ghosts-two_uncounted a = record { name = a.blank.name; parts = a.blank.parts }
