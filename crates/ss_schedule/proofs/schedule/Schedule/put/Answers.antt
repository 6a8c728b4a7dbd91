use Rattle.std.proofs.Common.{◌<◌, length}
use Rattle.ss_schedule.specs.Keyed.{ScheduleState}
use Rattle.ss_schedule.proofs.KeyedLemmas.{PutsKey-set}
use Rattle.ss_schedule.proofs.schedule.Schedule.put.Goals as goal

pub set-requires-clause-room : goal.set-requires-clause-room
set-requires-clause-room c = rw (← c.self.view_is) at c.requires.room

pub returns : goal.returns
returns c =
    let held : ScheduleState = record { target = c.self.inside.target; keys = c.self.inside.keys } in
    let new : ScheduleState = record { target = c.self.inside.target; keys = c.set.new.self } in
    let is = rw (← c.self.view_is) at c.key_of-key.ensures.key in
    let inside : c.args.at.0 < length c.self.inside.keys = rw (← c.self.view_is) at c.requires.room in
    rw c.self.view_is at (PutsKey-set held c.set.new.self c.args.n c.args.at c.args.pair c.key_of-key.result is inside c.set.ensures)
