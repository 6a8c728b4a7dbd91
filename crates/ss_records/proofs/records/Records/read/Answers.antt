use Rattle.std.proofs.Common.{◌∙◌, sym, arith}
use Rattle.ss_outside.proofs.StepLemmas.{step-none}
use Rattle.ss_journal.proofs.StepLemmas.{step-from}
use Rattle.ss_records.proofs.PageLemmas.{promoted-none}
use Rattle.ss_records.proofs.RecordLemmas.{reads-cached, reads-record}
use Rattle.ss_records.proofs.records.Records.read.Goals as goal

pub read-requires-clause-one_disk : goal.read-requires-clause-one_disk
read-requires-clause-one_disk g c told = rw (← c.self.view_is) at (c.requires.one_disk told).journal

pub returns-then-slot-extent-clause-reads : goal.returns-then-slot-extent-clause-reads
returns-then-slot-extent-clause-reads g c =
    step-from c.read.ensures.reads (λ told read.
    reads-record c.self.inside.journal c.self.inside.live c.self.inside.pages c.args.self.now c.self.view_is _ (c.requires.one_disk told)
    _ c.read.new.self c.args.slot c.read.result c.read.ensures.journal read)

pub returns-in-Some-clause-reads : goal.returns-in-Some-clause-reads
returns-in-Some-clause-reads g c =
    rw c.find.ensures.promotes (step-none _ _ (λ told.
    reads-cached c.self.inside.journal c.self.inside.live c.self.inside.pages c.args.self.now c.self.view_is _ (c.requires.one_disk told)
    c.args.slot c.in-Some.bytes (omega (arith, c.requires.slot)) (sym c.find.ensures.value ∙ c.in-Some.is)))

pub read_uncached-requires-clause-uncached : goal.read_uncached-requires-clause-uncached
read_uncached-requires-clause-uncached g c =
    let none = sym c.find.ensures.value ∙ c.in-None.is in
    rw (c.find.ensures.promotes ∙ promoted-none c.self.inside.pages c.args.slot none) none

pub read_uncached-requires-clause-one_disk : goal.read_uncached-requires-clause-one_disk
read_uncached-requires-clause-one_disk g c =
    let none = sym c.find.ensures.value ∙ c.in-None.is in
    rw (c.find.ensures.promotes ∙ promoted-none c.self.inside.pages c.args.slot none, c.self.view_is) c.requires.one_disk

pub returns-in-None-clause-reads : goal.returns-in-None-clause-reads
returns-in-None-clause-reads g c =
    let none = sym c.find.ensures.value ∙ c.in-None.is in
    let looked = c.find.ensures.promotes ∙ promoted-none c.self.inside.pages c.args.slot none in
    rw (sym c.self.view_is) (rw looked at c.read_uncached.ensures.reads)

pub returns-in-None-clause-recalls : goal.returns-in-None-clause-recalls
returns-in-None-clause-recalls g c lt =
    let none = sym c.find.ensures.value ∙ c.in-None.is in
    let looked = c.find.ensures.promotes ∙ promoted-none c.self.inside.pages c.args.slot none in
    rw (sym c.self.view_is) (rw looked at c.read_uncached.ensures.recalls)

pub returns-in-None-clause-uncached : goal.returns-in-None-clause-uncached
returns-in-None-clause-uncached g c =
    let none = sym c.find.ensures.value ∙ c.in-None.is in
    let looked = c.find.ensures.promotes ∙ promoted-none c.self.inside.pages c.args.slot none in
    rw (sym c.self.view_is) (rw looked at c.read_uncached.ensures.kept)
