use Rattle.ss_promises.proofs.AlikeText.{Stands-old, has-old, line-brought, line-said, lines-after, lines-said}
use Rattle.ss_promises.proofs.origin_laws.old_values_change_answers_to_has_alone.Goals as goal

pub returns-clause-stands : goal.returns-clause-stands
returns-clause-stands c = Stands-old

pub returns-clause-event : goal.returns-clause-event
returns-clause-event c = line-brought

pub returns-clause-text : goal.returns-clause-text
returns-clause-text c = line-said

pub returns-clause-after : goal.returns-clause-after
returns-clause-after c = lines-after

pub returns-clause-report : goal.returns-clause-report
returns-clause-report c = lines-said

pub returns-clause-presence : goal.returns-clause-presence
returns-clause-presence c = has-old
