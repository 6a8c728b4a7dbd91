use Rattle.ss_promises.proofs.FollowedLemmas.{follows-primary}
use Rattle.ss_promises.proofs.frame_laws.followers_go_on_with_their_primary.Goals as goal

pub returns : goal.returns
returns c = follows-primary
