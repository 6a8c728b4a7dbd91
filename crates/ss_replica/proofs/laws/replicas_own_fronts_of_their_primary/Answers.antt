use Rattle.std.proofs.Common.{⊎_elim}
use Rattle.ss_replica.specs.Offers.{after_offer}
use Rattle.ss_replica.proofs.FrontLemmas.{IsReplica-fronts, of_front, replica-offer, replica-offers}
use Rattle.ss_replica.proofs.laws.replicas_own_fronts_of_their_primary.Goals as goal

pub returns-clause-history : goal.returns-clause-history
returns-clause-history c primary start frames is whole fronts of =
    (replica-offers primary start frames is of (IsReplica-fronts primary start whole fronts)).is_history

pub returns-clause-fronts : goal.returns-clause-fronts
returns-clause-fronts c primary start frames is whole fronts of name known =
    (replica-offers primary start frames is of (IsReplica-fronts primary start whole fronts)).fronts name

pub returns-clause-streams : goal.returns-clause-streams
returns-clause-streams c primary history name s is whole fronts found =
    of_front primary history name s is (IsReplica-fronts primary history whole fronts) found

pub returns-clause-crash : goal.returns-clause-crash
returns-clause-crash c primary history frame image is whole fronts of =
    ⊎_elim (λ stands. (history, stands, fronts))
    (λ stands. (
      after_offer history frame,
      stands,
      λ name known. (replica-offer primary history frame is of (IsReplica-fronts primary history whole fronts)).fronts name,
    ))
