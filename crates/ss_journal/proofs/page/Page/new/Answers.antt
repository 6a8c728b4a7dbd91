use Rattle.ss_journal.proofs.Common.{◌∙◌, arith, false, refl, replicate, get_or-replicate}
use Rattle.ss_journal.proofs.PageLemmas.{slot_in_page-said, slot_said-unformed}
use Rattle.ss_journal.proofs.page.Page.new.Goals as goal

pub returns : goal.returns
returns c k lt =
    slot_in_page-said c.args.kind c.args.number (replicate 32 false) c.args.bytes _ k refl (omega arith) lt
    ∙ slot_said-unformed c.args.kind c.args.number (replicate 32 false) c.args.bytes k (get_or-replicate 32 k false false lt)
