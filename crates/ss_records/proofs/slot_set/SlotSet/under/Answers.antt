use Rattle.std.proofs.Common.{◌*◌, sym, arith}
use Rattle.ss_records.proofs.TreeLemmas.{IsTree-zeros, count-zeros, members-zeros, length-members-zeros}
use Rattle.ss_records.proofs.slot_set.SlotSet.under.Goals as goal

pub invariant_of-result : goal.invariant_of-result
invariant_of-result c =
    let n = c.args.tops in
    rw (c.in_ok-clear_words.ensures, c.in_ok-clear_words-2.ensures, c.in_ok-clear_words-3.ensures) (IsTree-zeros n c.requires, sym (count-zeros (4096 * n)))

pub returns-clause-slots : goal.returns-clause-slots
returns-clause-slots c =
    let n = c.args.tops in
    rw c.in_ok-clear_words.ensures (omega (arith, length-members-zeros (4096 * n)))

pub returns-clause-empty : goal.returns-clause-empty
returns-clause-empty c = rw c.in_ok-clear_words.ensures (members-zeros (4096 * c.args.tops))
