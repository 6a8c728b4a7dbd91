use Rattle.ss_recover.proofs.Common.{answers_always, found_key, on_ok_weaker, rules}
use Rattle.ss_recover.proofs.InOrder.{in_order-from_sort}
use Rattle.ss_recover.proofs.sorting.sort.Goals as goal

pub returns-clause-order : goal.returns-clause-order
returns-clause-order c =
    let always = answers_always _ _ _ (λ f a r g h. search rules) in
    on_ok_weaker _ (λ sorted. in_order-from_sort found_key _ _ (sorted found_key always)
    (c.sort_by_key.ensures.stable found_key always)) c.sort_by_key.ensures.sorted
