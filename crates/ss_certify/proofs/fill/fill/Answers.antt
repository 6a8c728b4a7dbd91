use Rattle.std.proofs.Common.{arith, ap₂, ◌∙◌, [], ◌++◌, ◌/◌, ◌%◌, ◌<◌, ◌≤◌}
use Rattle.std.proofs.lemmas.Int.{to_z-of_z}
use Rattle.ss_certify.specs.Fill.{raised, run_before}
use Rattle.ss_certify.proofs.FillLemmas.{computed-apart, computed-above, fill-one_value, fill-raised, have_room}
use Rattle.ss_certify.proofs.fill.fill.Goals as goal
use Rattle.ss_certify.proofs.fill.fill.Goals.{After-above-above}

pub returns-then-apart-eq0 : goal.returns-then-apart-eq0
returns-then-apart-eq0 c =
    let apart = computed-apart c.args.min c.args.max _ _ c.ranges.min c.ranges.max c.abs_diff.ensures c.from-apart.ensures in
    let min_is = to_z-of_z _ c.args.min c.ranges.min in
    c.add_run.ensures.items ∙ ap₂ (λ runs v. runs ++ run_before v c.args.count []) c.new-runs.ensures min_is
    ∙ fill-one_value c.args.count c.args.sum c.args.min c.args.max (omega arith)

-- the greatest values and the one for the rest are no more than there are
room : (c : After-above-above) → (c.above-above.result / c.from-apart.result ≤ c.args.count)
    × (0 < c.above-above.result % c.from-apart.result → c.above-above.result / c.from-apart.result < c.args.count)
room c =
    let apart = computed-apart c.args.min c.args.max _ _ c.ranges.min c.ranges.max c.abs_diff.ensures c.from-apart.ensures in
    let above = computed-above c.args.count c.args.sum c.args.min _ c.ranges.sum c.ranges.min c.above-above.ensures in
    have_room c.args.count c.args.sum c.args.min c.args.max c.above-above.result c.from-apart.result apart above
    (omega arith) c.requires.order c.requires.low c.requires.high

pub overflow_cast-above : goal.overflow_cast-above
overflow_cast-above c = let few = (room c).0 in omega (arith, c.requires.few)

pub raised-requires-clause-most : goal.raised-requires-clause-most
raised-requires-clause-most c = (room c).0

pub raised-requires-clause-room : goal.raised-requires-clause-room
raised-requires-clause-room c = (room c).1

pub returns : goal.returns
returns c =
    let apart = computed-apart c.args.min c.args.max _ _ c.ranges.min c.ranges.max c.abs_diff.ensures c.from-apart.ensures in
    let above = computed-above c.args.count c.args.sum c.args.min _ c.ranges.sum c.ranges.min c.above-above.ensures in
    let most = c.above-above.result / c.from-apart.result in
    let rest = c.above-above.result % c.from-apart.result in
    c.raised.ensures
    ∙ ap₂ (λ m M. raised c.args.count m M most rest) (to_z-of_z _ c.args.min c.ranges.min) (to_z-of_z _ c.args.max c.ranges.max)
    ∙ fill-raised c.args.count c.args.sum c.args.min c.args.max c.above-above.result c.from-apart.result apart above
    (omega arith) c.requires.low c.requires.high
