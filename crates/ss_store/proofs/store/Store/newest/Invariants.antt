use Rattle.ss_store.proofs.store.Store.newest.Given as goal

abbrev pub ghosts-newest_of : goal.ghosts-newest_of
ghosts-newest_of g a = record { name = a.blank.name; parts = a.blank.parts }
