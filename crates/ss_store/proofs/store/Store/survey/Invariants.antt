use Rattle.ss_store.proofs.store.Store.survey.Given as goal

abbrev pub ghosts-surveyed_in : goal.ghosts-surveyed_in
ghosts-surveyed_in g a = record { name = a.blank.name; parts = a.blank.parts }
