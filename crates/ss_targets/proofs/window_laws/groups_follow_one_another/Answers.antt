use Rattle.ss_targets.proofs.GroupLemmas.{cut-groups}
use Rattle.ss_targets.proofs.window_laws.groups_follow_one_another.Goals as goal

pub returns : goal.returns
returns c = cut-groups
