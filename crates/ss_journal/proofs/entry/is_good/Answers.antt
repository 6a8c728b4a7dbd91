use Rattle.ss_journal.proofs.Common.{sym, arith, nat_tests}
use Rattle.ss_journal.proofs.EntryLemmas.{is_good-few, is_good-none, is_good-many}
use Rattle.ss_journal.proofs.entry.is_good.Goals as goal
use Rattle.ss_journal.proofs.entry.is_good.Goals.{then-entry-lt1-via-then-entry-lt1, then-entry-lt1-via-else-entry-lt1+then-from-gt-MOST_PUTS, then-slots_rise}
use Rattle.ss_journal.proofs.entry.is_good.Goals.{else-slots_rise}

pub returns-then-entry-lt1-clause-value : goal.returns-then-entry-lt1-clause-value
returns-then-entry-lt1-clause-value c =
    elim c.then-entry-lt1.branch [
      | then-entry-lt1-via-then-entry-lt1 w ↦ sym (is_good-none c.args.entry.now c.args.extent w.if-entry-lt1.true)
      | then-entry-lt1-via-else-entry-lt1+then-from-gt-MOST_PUTS w ↦ sym
          (is_good-many c.args.entry.now c.args.extent (omega (arith, w.if-from-gt-MOST_PUTS.true, w.from.ensures)))
    ]

pub returns-then-slots_fit-clause-value : goal.returns-then-slots_fit-clause-value
returns-then-slots_fit-clause-value c =
    let is = is_good-few c.args.entry.now c.args.extent (omega arith) (omega arith) in
    elim c.if-slots_rise.branch [ then-slots_rise w ↦ grind (arith, nat_tests) | else-slots_rise w ↦ grind (arith, nat_tests) ]

pub returns-else-slots_fit-clause-value : goal.returns-else-slots_fit-clause-value
returns-else-slots_fit-clause-value c =
    let is = is_good-few c.args.entry.now c.args.extent (omega arith) (omega arith) in
    elim c.if-slots_rise.branch [ then-slots_rise w ↦ grind (arith, nat_tests) | else-slots_rise w ↦ grind (arith, nat_tests) ]
