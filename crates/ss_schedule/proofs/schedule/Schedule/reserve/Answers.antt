use Rattle.std.proofs.Common.{refl}
use Rattle.ss_schedule.specs.Keyed.{ScheduleState}
use Rattle.ss_schedule.proofs.KeyedLemmas.{IsKeyed-room}
use Rattle.ss_schedule.proofs.schedule.Schedule.reserve.Goals as goal

pub returns-clause-keyed : goal.returns-clause-keyed
returns-clause-keyed c n entries keyed =
    let held : ScheduleState = record { target = c.self.inside.target; keys = c.self.inside.keys } in
    let new : ScheduleState = record { target = c.self.inside.target; keys = c.reserve.new.self } in
    IsKeyed-room n entries held new refl c.reserve.ensures.grows c.reserve.ensures.keys (rw c.self.view_is keyed)
