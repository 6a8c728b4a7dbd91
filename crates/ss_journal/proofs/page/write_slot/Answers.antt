use Rattle.ss_journal.proofs.Common.{◌≡◌, ◌*◌, ◌+◌, ◌-◌, length, arith, rules}
use Rattle.ss_journal.proofs.PageLemmas.{slot_in_page-other, slot_in_page-same}
use Rattle.ss_journal.proofs.page.write_slot.Goals as goal

pub returns-clause-same : goal.returns-clause-same
returns-clause-same c =
    let size : 128 * c.args.n + 128 - 128 * c.args.n ≡ 128 = omega arith in
    let whole : length c.copy_from_slice.new.self ≡ 128 * c.args.n + 128 - 128 * c.args.n = search rules in
    slot_in_page-same c.args.bytes.now c.copy_from_slice.new.self _ c.args.n _ (omega arith) (omega arith) size whole c.copy_from_slice.ensures.after

pub returns-clause-others : goal.returns-clause-others
returns-clause-others c k lt apart =
    let size : 128 * c.args.n + 128 - 128 * c.args.n ≡ 128 = omega arith in
    let whole : length c.copy_from_slice.new.self ≡ 128 * c.args.n + 128 - 128 * c.args.n = search rules in
    slot_in_page-other c.args.bytes.now c.copy_from_slice.new.self _ c.args.n _ (omega arith) (omega arith) size whole c.copy_from_slice.ensures.after k apart
