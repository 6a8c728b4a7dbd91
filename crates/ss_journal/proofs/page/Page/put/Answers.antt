use Rattle.ss_journal.proofs.Common.{◌∙◌, arith, refl, sym, true, set}
use Rattle.ss_journal.proofs.PageLemmas.{slot_in_page-said, slot_said-others, slot_said-written}
use Rattle.ss_journal.proofs.page.Page.put.Goals as goal

pub returns-clause-written : goal.returns-clause-written
returns-clause-written c =
    let was = c.self.inside in
    slot_in_page-said was.kind was.number (set was.formed c.args.k true) c.write_slot.new.bytes _ c.args.k refl (omega arith) c.requires.slot
    ∙ slot_said-written was.kind was.number was.formed was.bytes c.write_slot.new.bytes c.args.bytes.now c.args.k (omega arith) c.requires.slot
    c.write_slot.ensures.same c.write_slot.ensures.others

pub returns-clause-others : goal.returns-clause-others
returns-clause-others c other lt apart =
    let was = c.self.inside in
    slot_in_page-said was.kind was.number (set was.formed c.args.k true) c.write_slot.new.bytes _ other refl (omega arith) lt
    ∙ slot_said-others was.kind was.number was.formed was.bytes c.write_slot.new.bytes c.args.bytes.now c.args.k (omega arith) c.requires.slot
    c.write_slot.ensures.same c.write_slot.ensures.others other lt apart
    ∙ sym (slot_in_page-said was.kind was.number was.formed was.bytes _ other c.self.view_is (omega arith) lt)
