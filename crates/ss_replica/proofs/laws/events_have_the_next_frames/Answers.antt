use Rattle.std.proofs.Common.{ap, length, refl}
use Rattle.ss_summary.specs.Points.{New}
use Rattle.ss_replica.proofs.FrontLemmas.{due-frame, later-frame}
use Rattle.ss_replica.proofs.OwnLemmas.{own-created}
use Rattle.ss_replica.proofs.laws.events_have_the_next_frames.Goals as goal

pub returns-clause-next : goal.returns-clause-next
returns-clause-next c = due-frame

pub returns-clause-own : goal.returns-clause-own
returns-clause-own c before after event = record { before = before; origin = New; after = after; is = refl; number = refl }

pub returns-clause-first : goal.returns-clause-first
returns-clause-first c history name params = ap length (own-created history name params New)

pub returns-clause-later : goal.returns-clause-later
returns-clause-later c = later-frame
