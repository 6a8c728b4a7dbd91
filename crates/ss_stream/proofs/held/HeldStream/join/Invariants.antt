use Rattle.ss_stream.proofs.held.HeldStream.join.Given as goal

abbrev pub ghosts-read_joined-R-Ledger : goal.ghosts-read_joined-R-Ledger
ghosts-read_joined-R-Ledger g a = record { name = a.reads.name; parts = a.reads.parts }

abbrev pub ghosts-read_joined-S-Ledger : goal.ghosts-read_joined-S-Ledger
ghosts-read_joined-S-Ledger g a = record { name = a.searches.name; parts = a.searches.parts }
