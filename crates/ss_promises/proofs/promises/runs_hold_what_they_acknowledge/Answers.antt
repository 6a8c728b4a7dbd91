use Rattle.ss_program.specs.declared.status.Status.TheVariants.{Done, OutOfMemory, SourceFault}
use Rattle.ss_program.proofs.Common.{None, refl, Each, Shared, steps, begun}
use Rattle.ss_promises.proofs.AckedLemmas.{HasBegun-ends, HoldsOks-serves, asked-some}
use Rattle.ss_program.proofs.HeldLemmas.{StandsForFirst-within}
use Rattle.ss_promises.proofs.promises.runs_hold_what_they_acknowledge.Goals as goal

pub returns-clause-done : goal.returns-clause-done
returns-clause-done g c mode left rest held holds number serves form sealing history input begins is =
    let served = serves form sealing begins.asked Done is input begins.source begins.tells begins.durable None history (begins.stands, tt) in
    (served.report.whole refl, served.whole refl)

pub returns-clause-any_moment : goal.returns-clause-any_moment
returns-clause-any_moment g c mode left rest held holds number serves status is form sealing history input begins image since =
    StandsForFirst-within (begun form history) (steps form input) image
    ((serves form sealing begins.asked status is input begins.source begins.tells begins.durable None history (begins.stands, tt)).any_moment.each image since)

pub returns-clause-acked_held : goal.returns-clause-acked_held
returns-clause-acked_held g c mode left rest held holds number serves status is form history input begins had has is_had is_has image may =
    let kept = (serves form Each begins.asked status is input begins.source begins.tells begins.durable None history (begins.stands, tt)).kept had has
    is_had is_has image may in
    (kept.4.j, kept.4.acked, kept.4.at_most refl, kept.4.stands.0)

pub returns-clause-shared_held : goal.returns-clause-shared_held
returns-clause-shared_held g c mode left rest held holds number serves status is form history input begins had has is_had is_has image may =
    let kept = (serves form Shared begins.asked status is input begins.source begins.tells begins.durable None history (begins.stands, tt)).kept had has
    is_had is_has image may in
    (kept.4.j, kept.0, kept.1, kept.2, kept.3, kept.4.acked, kept.4.within, kept.4.stands.0)

pub returns-clause-starved : goal.returns-clause-starved
returns-clause-starved g c mode left rest held holds number serves form sealing history input begins is had has is_had is_has image may =
    let kept = (serves form sealing begins.asked OutOfMemory is input begins.source begins.tells begins.durable None history (begins.stands, tt)).kept had has
    is_had is_has image may in
    rw (kept.4.starved refl) at kept.4.stands.0

pub returns-clause-asked_again : goal.returns-clause-asked_again
returns-clause-asked_again g c mode left rest held holds number serves form sealing history input begins is =
    let served = serves form sealing begins.asked SourceFault is input begins.source begins.tells begins.durable None history (begins.stands, tt) in
    let faulted = served.report.faulted refl in
    (faulted.0, faulted.1, faulted.2.all, faulted.2.others, faulted.3)

pub returns-clause-ok_held : goal.returns-clause-ok_held
returns-clause-ok_held g c mode left rest held holds faults faulted number serves ends status is form sealing history input begins had has is_had
    is_has image may =
    let ended = ends (asked-some mode form sealing begins.asked) status is in
    HoldsOks-serves sealing (begun form history) input rest held holds (g.D.Disk.seen c.args.old.now).told (g.D.Disk.seen c.args.new.now).told status
    (HasBegun-ends (g.D.Disk.seen c.args.old.now) (g.D.Disk.seen c.args.new.now) held holds faults faulted status history ended begins.tells begins.stands)
    (serves form sealing begins.asked status is input begins.source begins.tells begins.durable None history (begins.stands, tt)) had has is_had
    is_has image may
