use Rattle.ss_recover.proofs.rebuilding.rebuild.Given as goal

abbrev pub ghosts-streams_of : goal.ghosts-streams_of
ghosts-streams_of g a = record { name = a.blank.name; parts = a.blank.parts }
