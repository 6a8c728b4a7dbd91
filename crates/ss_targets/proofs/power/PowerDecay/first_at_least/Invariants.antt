use Rattle.ss_targets.proofs.power.PowerDecay.first_at_least.Given as goal

abbrev pub ghosts-first_long : goal.ghosts-first_long
ghosts-first_long a = record { name = a.blank.name; parts = a.blank.parts }
