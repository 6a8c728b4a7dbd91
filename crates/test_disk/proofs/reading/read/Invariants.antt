use Rattle.test_disk.proofs.reading.read.Given as goal

abbrev pub ghosts-read_with : goal.ghosts-read_with
ghosts-read_with g a = record { name = a.blank.name; parts = a.blank.parts }
