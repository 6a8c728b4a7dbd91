use Rattle.ss_targets.specs.Targets.{lengths-positive}
use Rattle.ss_schedule.proofs.KeyedLemmas.{IsKeyed-next}
use Rattle.ss_schedule.proofs.laws.keyed_at_the_next_count.Goals as goal

pub returns : goal.returns
returns c n entries schedule few keyed none = IsKeyed-next n entries schedule (lengths-positive schedule.target) few keyed none
