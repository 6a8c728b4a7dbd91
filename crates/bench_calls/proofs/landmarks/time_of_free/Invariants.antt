use Rattle.bench_calls.proofs.landmarks.time_of_free.Given as goal

abbrev pub ghosts-sum_of_free : goal.ghosts-sum_of_free
ghosts-sum_of_free g a = record { name = a.blank.name; parts = a.blank.parts }
