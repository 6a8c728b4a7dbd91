use Rattle.ss_targets.proofs.power.PowerDecay.window_at.Given as goal

abbrev pub ghosts-seek_uncounted : goal.ghosts-seek_uncounted
ghosts-seek_uncounted a = record { name = a.blank.name; parts = a.blank.parts }
