use Rattle.std.proofs.Common.{refl}
use Rattle.ss_bounds.proofs.MixedLemmas.{computed-mean, computed-sum, mixed-same}
use Rattle.ss_bounds.proofs.guess.mixed_sum.Goals as goal

pub scaled-requires-clause-mean : goal.scaled-requires-clause-mean
scaled-requires-clause-mean c = computed-mean _ c.split.invariant _ _ c.parted-mean.ensures.whole c.parted-mean.ensures.proper

pub scaled-requires-2-clause-mean : goal.scaled-requires-2-clause-mean
scaled-requires-2-clause-mean c = computed-mean _ c.split.invariant _ _ c.parted-mean.ensures.whole c.parted-mean.ensures.proper

pub overflow_add-result : goal.overflow_add-result
overflow_add-result c =
    (computed-sum _ c.split.invariant c.spread_of-guess.result (rw c.split.view_is c.spread_of-guess.ensures) _ _ _ _ _ _ _ _ _ _
    c.parted-mean.ensures.whole c.parted-mean.ensures.proper c.scaled.ensures c.parted-more.ensures.whole c.parted-more.ensures.proper
    c.rests-few.ensures c.scaled-2.ensures refl refl).0

pub overflow_add-result-2 : goal.overflow_add-result-2
overflow_add-result-2 c =
    (computed-sum _ c.split.invariant c.spread_of-guess.result (rw c.split.view_is c.spread_of-guess.ensures) _ _ _ _ _ _ _ _ _ _
    c.parted-mean.ensures.whole c.parted-mean.ensures.proper c.scaled.ensures c.parted-more.ensures.whole c.parted-more.ensures.proper
    c.rests-few.ensures c.scaled-2.ensures refl refl).1

pub returns : goal.returns
returns c =
    mixed-same _ _ _ c.split.view_is
    (computed-sum _ c.split.invariant c.spread_of-guess.result (rw c.split.view_is c.spread_of-guess.ensures) _ _ _ _ _ _ _ _ _ _
    c.parted-mean.ensures.whole c.parted-mean.ensures.proper c.scaled.ensures c.parted-more.ensures.whole c.parted-more.ensures.proper
    c.rests-few.ensures c.scaled-2.ensures c.from.ensures c.from-2.ensures).2
