use Rattle.ss_recover.proofs.Common.{◌&&◌, ◌∙◌, ◌≡◌, All, All-tail, are_in_time, Found, is_in_time, IsUsable, List, Some, subst}
use Rattle.ss_recover.proofs.Common.{sym, true, without_slots}
use Rattle.ss_recover.proofs.marking.are_in_time.Goals as goal

pub loop-first-preserved : goal.loop-first-preserved
loop-first-preserved c =
    let first = c.in-Some.first.now in
    let rs = without_slots c.in-Some.tail.now in
    let both = subst (λ (l : List Found). (are_in_time (Some 0) (without_slots c.args.found.now) ≡ are_in_time c.loop-first.from (without_slots l))
    × All (λ (f : Found). IsUsable f.holds) l) c.in-Some.ensures.cases.0 c.loop-first.invariant in
    let fine : is_in_time c.loop-first.from first.holds rs ≡ true = sym c.is_in_time.ensures ∙ c.if-not-is_in_time.false in
    let next = sym c.next_from-from.ensures in
    (both.0 ∙ (λ i. fine i && are_in_time (next i) rs), All-tail (λ (f : Found). IsUsable f.holds) first c.in-Some.tail.now both.1)
