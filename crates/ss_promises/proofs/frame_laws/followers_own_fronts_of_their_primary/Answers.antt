use Rattle.ss_program.proofs.Common.{None, [], append-nil, sym, Follow, after_lines, begun, pieces}
use Rattle.ss_promises.proofs.BrokenLemmas.{first-replica, image-replica, image-streams, replica-fronts}
use Rattle.ss_promises.proofs.frame_laws.followers_own_fronts_of_their_primary.Goals as goal

pub returns-clause-history : goal.returns-clause-history
returns-clause-history g c primary history input follows whole =
    replica-fronts primary (after_lines (begun Follow history) (pieces input)).history
    (first-replica primary history input (pieces input) [] follows (sym (append-nil (pieces input))) whole)

pub returns-clause-any_moment : goal.returns-clause-any_moment
returns-clause-any_moment g c mode left rest held holds number serves status is sealing history input begins primary follows image since =
    let served = serves Follow sealing begins.asked status is input begins.source begins.tells begins.durable None history (begins.stands, tt) in
    let at = image-replica primary history input image follows begins.stands.is_history (served.any_moment.each image since) in
    (at.0, at.1, replica-fronts primary at.0 at.2)

pub returns-clause-streams : goal.returns-clause-streams
returns-clause-streams g c mode left rest held holds number serves status is sealing history input begins primary follows image since streams are name s found =
    let served = serves Follow sealing begins.asked status is input begins.source begins.tells begins.durable None history (begins.stands, tt) in
    image-streams primary history input image follows begins.stands.is_history (served.any_moment.each image since) streams are name s found
