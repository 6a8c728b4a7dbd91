use Rattle.ss_store.proofs.store.Store.events.Given as goal

abbrev pub ghosts-events_in : goal.ghosts-events_in
ghosts-events_in a = record { name = a.blank.name; parts = a.blank.parts }
