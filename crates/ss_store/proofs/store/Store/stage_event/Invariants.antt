use Rattle.ss_store.proofs.store.Store.stage_event.Given as goal

abbrev pub ghosts-stage_value : goal.ghosts-stage_value
ghosts-stage_value g a = record { name = a.blank.name; parts = a.blank.parts }

abbrev pub ghosts-stage_mark : goal.ghosts-stage_mark
ghosts-stage_mark g a = record { name = a.blank.name; parts = a.blank.parts }

abbrev pub ghosts-stage_drop : goal.ghosts-stage_drop
ghosts-stage_drop g a = record { name = a.blank.name; parts = a.blank.parts }
