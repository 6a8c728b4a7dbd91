use Rattle.ss_replica.proofs.FrontLemmas.{IsReplica-fronts, refused-offer}
use Rattle.ss_replica.proofs.laws.frames_are_refused_for_room_alone.Goals as goal

pub returns : goal.returns
returns c primary history frame r is whole fronts of said =
    refused-offer primary history frame r is of (IsReplica-fronts primary history whole fronts) said
