use Rattle.ss_store.proofs.store.Store.stream.Given as goal

abbrev pub ghosts-stream_in : goal.ghosts-stream_in
ghosts-stream_in a = record { name = a.blank.name; parts = a.blank.parts }
