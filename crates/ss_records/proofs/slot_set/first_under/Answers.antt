use Rattle.std.proofs.Common.{sym}
use Rattle.ss_records.proofs.TreeLemmas.{first-from, first-word, first-full, position-first}
use Rattle.ss_records.proofs.slot_set.first_under.Goals as goal

pub returns-clause-first : goal.returns-clause-first
returns-clause-first c =
    let low = c.args.low.now in
    let middle = c.args.middle.now in
    let top = c.args.top.now in
    let block = c.first_clear-block.result in
    let word = c.first_clear-word.result in
    let found = c.first_clear-block.ensures in
    let first = first-from top c.args.n block c.requires.word c.requires.full found.within found.clear found.before in
    let under = c.first_clear-word.ensures in
    let second = first-from middle block word (first-word top middle c.requires.tree.over_middle block first)
    (first-full top middle c.requires.tree.over_middle block first) under.within under.clear under.before in
    let last = c.first_clear.ensures in
    let third = first-from low word c.first_clear.result (first-word middle low c.requires.tree.over_low word second)
    (first-full middle low c.requires.tree.over_low word second) last.within last.clear last.before in
    sym (position-first low c.first_clear.result third)
