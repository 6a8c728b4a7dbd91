use Rattle.std.proofs.Common.{◌<◌, ap, arith, length}
use Rattle.std.proofs.lemmas.Bool.Decides.{nat_tests}
use Rattle.ss_schedule.specs.Held.{fit_of}
use Rattle.ss_schedule.proofs.HeapLemmas.{before_read}
use Rattle.ss_schedule.proofs.keys.Keys.least_by.Goals as goal

pub returns-in_default-clause-none : goal.returns-in_default-clause-none
returns-in_default-clause-none c at =
    let some : 0 < length c.self.inside.heap.items = grind (arith, nat_tests) in
    let first : c.args.n < fit_of c.index.result.now = omega (arith, c.if-fit-n.false, ap fit_of c.in-Some.is) in
    let all = before_read c.self.inside.keys.items c.self.inside.heap.items c.self.inside.positions.items c.self.invariant.0 c.args.n
    c.index-place.result.now c.index.result.now some c.index-place.ensures c.index.ensures c.requires first at in
    rw (← c.self.view_is) all

pub returns-in_default-2-clause-none : goal.returns-in_default-2-clause-none
returns-in_default-2-clause-none c at =
    let some : 0 < length c.self.inside.heap.items = grind (arith, nat_tests) in
    let first : c.args.n < fit_of c.index.result.now = omega (arith, c.requires, ap fit_of c.in_default.is) in
    let all = before_read c.self.inside.keys.items c.self.inside.heap.items c.self.inside.positions.items c.self.invariant.0 c.args.n
    c.index-place.result.now c.index.result.now some c.index-place.ensures c.index.ensures c.requires first at in
    rw (← c.self.view_is) all
