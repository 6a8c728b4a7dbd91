use Rattle.test_window.proofs.line.places_are_used_again_in_another_order.Given as goal

abbrev pub ghosts-all_leave : goal.ghosts-all_leave
ghosts-all_leave g a = record { name = a.blank.name; parts = a.blank.parts }
