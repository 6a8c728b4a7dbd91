use Rattle.ss_targets.proofs.PowerLemmas.{start-capped, start-within, start-past, NoneOfLength-past, FindsOfLength-group}
use Rattle.ss_targets.proofs.power.Power.first_long.Goals as goal

pub returns-then-unit-power_sum_upto-clause-none : goal.returns-then-unit-power_sum_upto-clause-none
returns-then-unit-power_sum_upto-clause-none g c =
    let h = c.args.self.now.in_range in
    let group = c.shorter_groups-group.result in
    let past = start-past h group c.exponent.ensures c.unit.ensures (rw c.power_sum_upto.ensures.sum at c.if-unit-power_sum_upto.true) in
    NoneOfLength-past h group c.args.len c.shorter_groups-group.ensures.short past

pub first_of_group-requires-clause-capped : goal.first_of_group-requires-clause-capped
first_of_group-requires-clause-capped g c =
    let within = rw (c.power_sum_upto.ensures.sum, c.exponent.ensures) at c.if-unit-power_sum_upto.false in
    start-capped c.args.self.now.in_range c.unit.result c.shorter_groups-group.result within

pub first_of_group-requires-clause-early : goal.first_of_group-requires-clause-early
first_of_group-requires-clause-early g c =
    start-within c.args.self.now.in_range c.shorter_groups-group.result c.exponent.ensures c.unit.ensures
    (rw c.power_sum_upto.ensures.sum at c.if-unit-power_sum_upto.false)

pub returns-clause-some : goal.returns-clause-some
returns-clause-some g c =
    let h = c.args.self.now.in_range in
    let group = c.shorter_groups-group.result in
    let first = c.first_of_group.ensures in
    let within = rw (c.power_sum_upto.ensures.sum, c.exponent.ensures) at c.if-unit-power_sum_upto.false in
    let early = start-within h group c.exponent.ensures c.unit.ensures (rw c.power_sum_upto.ensures.sum at c.if-unit-power_sum_upto.false) in
    FindsOfLength-group h group c.args.len c.shorter_groups-group.ensures.short c.first_of_group.result first.index first.start first.len
    (c.shorter_groups-group.ensures.long (start-capped h c.unit.result group within)) early
