use Rattle.ss_journal.proofs.Common.{◌*◌, ◌+◌, [], slot_in_page, Put}
use Rattle.ss_journal.proofs.PageLemmas.{laid_more}
use Rattle.ss_journal.proofs.paging.lay_puts.Goals as goal

pub loop-put-preserved : goal.loop-put-preserved
loop-put-preserved c k lt =
    let d : Put = record { slot = 0; bytes = [] } in
    laid_more c.args.puts.now c.loop-put.put-index (32 * c.args.number + k) d (slot_in_page c.args.page.now k) (slot_in_page c.loop-put.page k) _
    c.loop-put-test.true (c.loop-put.invariant k lt) (c.lay_put.ensures k lt)
