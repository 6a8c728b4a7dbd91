use Rattle.std.proofs.Common.{[]}
use Rattle.ss_line.proofs.Places.{index-once}
use Rattle.ss_schedule.proofs.Places.{fresh-none}
use Rattle.ss_schedule.proofs.laws.the_last_one_pushed.Goals as goal

pub returns : goal.returns
returns c entries at entry fresh = index-once entries at entry [] (fresh-none entries at fresh)
