use Rattle.ss_store.proofs.store.Store.see.Given as goal

abbrev pub ghosts-see_stream-L-Ledger : goal.ghosts-see_stream-L-Ledger
ghosts-see_stream-L-Ledger g a = record { name = a.steps.name; parts = a.steps.parts }

abbrev pub ghosts-see_stream-R-Ledger : goal.ghosts-see_stream-R-Ledger
ghosts-see_stream-R-Ledger g a = record { name = a.reads.name; parts = a.reads.parts }

abbrev pub ghosts-see_stream-S-Ledger : goal.ghosts-see_stream-S-Ledger
ghosts-see_stream-S-Ledger g a = record { name = a.searches.name; parts = a.searches.parts }
