use Rattle.ss_store.proofs.store.Store.window_read.Given as goal

abbrev pub ghosts-read_in-L-Ledger : goal.ghosts-read_in-L-Ledger
ghosts-read_in-L-Ledger g a = record { name = a.steps.name; parts = a.steps.parts }

abbrev pub ghosts-read_in-S-Ledger : goal.ghosts-read_in-S-Ledger
ghosts-read_in-S-Ledger g a = record { name = a.searches.name; parts = a.searches.parts }
