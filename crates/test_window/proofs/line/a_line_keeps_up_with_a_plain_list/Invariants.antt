use Rattle.test_window.proofs.line.a_line_keeps_up_with_a_plain_list.Given as goal

abbrev pub ghosts-all_keep_up : goal.ghosts-all_keep_up
ghosts-all_keep_up g a = record { name = a.blank.name; parts = a.blank.parts }
