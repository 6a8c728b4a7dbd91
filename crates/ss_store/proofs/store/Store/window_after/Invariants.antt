use Rattle.ss_store.proofs.store.Store.window_after.Given as goal

abbrev pub ghosts-after_in : goal.ghosts-after_in
ghosts-after_in a = record { name = a.blank.name; parts = a.blank.parts }
