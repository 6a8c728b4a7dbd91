use Rattle.ss_journal.proofs.Common.{◌+◌, ◌*◌, ◌∙◌, ap, arith, sym, slot_form}
use Rattle.ss_journal.proofs.PageLemmas.{page_said-formed, slot_in_page-said, slot_said-formed, slot_said-unformed}
use Rattle.ss_journal.proofs.page.Page.slot.Goals as goal

pub returns-then-self-n-clause-value : goal.returns-then-self-n-clause-value
returns-then-self-n-clause-value c =
    let was = c.self.inside in
    c.slot_of-bytes.ensures ∙ sym (slot_said-formed was.kind was.number was.formed was.bytes c.args.k c.if-self-n.true)
    ∙ sym (slot_in_page-said was.kind was.number was.formed was.bytes _ c.args.k c.self.view_is (omega arith) c.requires.slot)

pub returns-clause-value : goal.returns-clause-value
returns-clause-value c =
    let was = c.self.inside in
    c.slot_form-said.ensures ∙ ap (slot_form was.kind (32 * was.number + c.args.k)) c.slot_of-bytes.ensures
    ∙ sym (slot_said-unformed was.kind was.number was.formed was.bytes c.args.k c.if-self-n.false)
    ∙ sym (slot_in_page-said was.kind was.number was.formed was.bytes _ c.args.k c.self.view_is (omega arith) c.requires.slot)

pub returns-clause-same : goal.returns-clause-same
returns-clause-same c =
    let was = c.self.inside in
    page_said-formed was.kind was.number was.formed was.bytes c.write_slot.new.bytes c.slot_form-said.result c.args.k (omega arith) c.requires.slot
    c.write_slot.ensures.same c.write_slot.ensures.others c.if-self-n.false
    (c.slot_form-said.ensures ∙ ap (slot_form was.kind (32 * was.number + c.args.k)) c.slot_of-bytes.ensures) ∙ c.self.view_is
