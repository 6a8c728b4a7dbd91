use Rattle.ss_journal.proofs.Common.{arith}
use Rattle.ss_journal.proofs.PageLemmas.{slot_in_page-cleared, slot_in_page-kept}
use Rattle.ss_journal.proofs.paging.clear_from.Goals as goal

pub returns-clause-used : goal.returns-clause-used
returns-clause-used c =
    slot_in_page-kept c.args.bytes.now c.fill.new.self c.args.used _ (omega arith) (omega arith) (c.fill.ensures.after (λ y e. e)) (omega arith)

pub returns-clause-unused : goal.returns-clause-unused
returns-clause-unused c =
    slot_in_page-cleared c.args.bytes.now c.fill.new.self c.args.used _ (omega arith) (omega arith) (c.fill.ensures.after (λ y e. e)) (omega arith)
