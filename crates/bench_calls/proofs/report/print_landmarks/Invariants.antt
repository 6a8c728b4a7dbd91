use Rattle.bench_calls.proofs.report.print_landmarks.Given as goal

abbrev pub ghosts-print_seen : goal.ghosts-print_seen
ghosts-print_seen g a = record { name = a.blank.name; parts = a.blank.parts }
