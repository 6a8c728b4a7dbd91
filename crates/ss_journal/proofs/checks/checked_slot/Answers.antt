use Rattle.ss_journal.proofs.Common.{sym}
use Rattle.ss_journal.proofs.CheckLemmas.{slot_form-free, slot_form-live}
use Rattle.ss_journal.proofs.checks.checked_slot.Goals as goal

pub returns-then-bytes-eq0 : goal.returns-then-bytes-eq0
returns-then-bytes-eq0 c = sym (slot_form-free c.args.slot c.args.bytes c.if-bytes-eq0.true)

pub returns : goal.returns
returns c = rw (c.mask.ensures, c.check_of-check.ensures, ← slot_form-live c.args.slot c.args.bytes c.if-bytes-eq0.false)
