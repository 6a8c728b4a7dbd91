use Rattle.std.proofs.Common.{◌+◌, arith}
use Rattle.ss_targets.proofs.PowerLemmas.{age-passed, start-within, start-past, length-positive, length-place, cut-place, holds-place, place_le_age}
use Rattle.ss_targets.proofs.power.Power.seek.Goals as goal

pub last_sum_within-group-requires-clause-passed : goal.last_sum_within-group-requires-clause-passed
last_sum_within-group-requires-clause-passed g c = age-passed c.args.self.now.in_range c.unit.result c.exponent.ensures c.requires

pub nonzero_div-place : goal.nonzero_div-place
nonzero_div-place g c = rw c.first_of_group-first.ensures.len (length-positive c.args.self.now.in_range c.last_sum_within-group.result)

pub overflow_add-result : goal.overflow_add-result
overflow_add-result g c =
    let first = c.first_of_group-first.ensures in
    let found = c.last_sum_within-group.ensures in
    let group = c.last_sum_within-group.result in
    let begun = start-within c.args.self.now.in_range group c.exponent.ensures c.unit.ensures found.within in
    let next = start-past c.args.self.now.in_range (group + 1) c.exponent.ensures c.unit.ensures found.last in
    rw (first.index, first.start, first.len) (omega (arith, place_le_age c.args.self.now.in_range group c.args.age begun next))

pub returns-clause-holds : goal.returns-clause-holds
returns-clause-holds g c =
    let first = c.first_of_group-first.ensures in
    let found = c.last_sum_within-group.ensures in
    let group = c.last_sum_within-group.result in
    let begun = start-within c.args.self.now.in_range group c.exponent.ensures c.unit.ensures found.within in
    let next = start-past c.args.self.now.in_range (group + 1) c.exponent.ensures c.unit.ensures found.last in
    rw (first.index, first.start, first.len) (holds-place c.args.self.now.in_range group c.args.age begun next)

pub returns-clause-start : goal.returns-clause-start
returns-clause-start g c =
    let first = c.first_of_group-first.ensures in
    let found = c.last_sum_within-group.ensures in
    let group = c.last_sum_within-group.result in
    let begun = start-within c.args.self.now.in_range group c.exponent.ensures c.unit.ensures found.within in
    let next = start-past c.args.self.now.in_range (group + 1) c.exponent.ensures c.unit.ensures found.last in
    rw (first.index, first.start, first.len) (cut-place c.args.self.now.in_range group c.args.age begun next)

pub returns-clause-len : goal.returns-clause-len
returns-clause-len g c =
    let first = c.first_of_group-first.ensures in
    let found = c.last_sum_within-group.ensures in
    let group = c.last_sum_within-group.result in
    let begun = start-within c.args.self.now.in_range group c.exponent.ensures c.unit.ensures found.within in
    let next = start-past c.args.self.now.in_range (group + 1) c.exponent.ensures c.unit.ensures found.last in
    rw (first.index, first.start, first.len) (length-place c.args.self.now.in_range group c.args.age begun next)
