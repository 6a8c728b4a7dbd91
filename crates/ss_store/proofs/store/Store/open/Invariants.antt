use Rattle.ss_store.proofs.store.Store.open.Given as goal

abbrev pub ghosts-open_in : goal.ghosts-open_in
ghosts-open_in g a = record { name = a.blank.name; parts = a.blank.parts }
