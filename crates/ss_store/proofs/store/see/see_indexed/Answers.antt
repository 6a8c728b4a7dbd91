use Rattle.ss_store.proofs.Common.{arith}
use Rattle.ss_store.proofs.store.see.see_indexed.Goals as goal

pub returns-clause-few : goal.returns-clause-few
returns-clause-few g c =
    let few = c.see_from.ensures.few c.start-start.ensures.near in
    (few.0, few.1, omega (arith, few.1, c.see_from.ensures.few_searches))
