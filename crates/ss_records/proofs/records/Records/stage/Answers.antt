use Rattle.std.proofs.Common.{◌∙◌, ap, List}
use Rattle.ss_journal.specs.declared.put.Put.{Put}
use Rattle.ss_records.specs.Live.{live_after}
use Rattle.ss_records.proofs.RecordLemmas.{AreSound-noted, stages-puts, within-live}
use Rattle.ss_records.proofs.records.Records.stage.Goals as goal

pub note_puts-requires : goal.note_puts-requires
note_puts-requires c = rw c.deref.ensures.0 (within-live c.args.txn.now.items c.self.inside.live c.requires.txn c.self.invariant.slots)

pub invariant_of-self : goal.invariant_of-self
invariant_of-self c =
    let live = c.self.inside.live in
    let noted = c.note_puts.ensures ∙ ap (λ (all : List Put). live_after all live) c.deref.ensures.0 in
    AreSound-noted c.self.inside.journal c.stage.new.self live c.note_puts.new.live c.self.inside.pages c.put_all.new.self c.args.txn.now.items
    c.args.self.now c.self.invariant c.self.view_is c.put_all.ensures.numbers c.requires.settled c.requires.txn c.requires.fit
    c.stage.ensures.staged.extent noted

pub returns-clause-stages : goal.returns-clause-stages
returns-clause-stages c content =
    let puts = c.args.txn.now.items in
    let live = c.self.inside.live in
    let cached = c.self.inside.pages in
    let noted = c.note_puts.ensures ∙ ap (λ (all : List Put). live_after all live) c.deref.ensures.0 in
    stages-puts c.self.inside.journal live cached c.args.self.now c.self.view_is puts c.stage.new.self c.note_puts.new.live c.put_all.new.self content
    (within-live puts live c.requires.txn c.self.invariant.slots) noted (λ map old. rw c.deref-2.ensures.0 at (c.put_all.ensures.pages map old))
    (c.stage.ensures.stages content)
