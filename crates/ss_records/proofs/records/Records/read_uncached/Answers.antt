use Rattle.std.proofs.Common.{◌∙◌, sym, ap, inl}
use Rattle.ss_journal.proofs.StepLemmas.{step-failed, step-from}
use Rattle.ss_records.specs.Kept.{RecordsState}
use Rattle.ss_records.specs.Pages.{cached_slot}
use Rattle.ss_records.proofs.PageLemmas.{promoted-none, Recalls-kept}
use Rattle.ss_records.proofs.RecordLemmas.{reads-failed, reads-page}
use Rattle.ss_records.proofs.records.Records.read_uncached.Goals as goal

pub read_page-requires-clause-one_disk : goal.read_page-requires-clause-one_disk
read_page-requires-clause-one_disk g c told = rw (← c.self.view_is) at (c.requires.one_disk told).journal

pub returns-in_err-page-clause-reads : goal.returns-in_err-page-clause-reads
returns-in_err-page-clause-reads g c =
    step-failed c.from_residual.result c.from_residual.ensures.0 c.in_err-page.ensures.reads (λ told read.
    reads-failed c.self.inside.journal c.self.inside.live c.self.inside.pages c.args.self.now c.self.view_is
    _ c.args.slot _ c.from_residual.result _ _ c.from_residual.ensures.0 read)

pub returns-in_err-page-clause-recalls : goal.returns-in_err-page-clause-recalls
returns-in_err-page-clause-recalls g c =
    let pages = ap (λ (records : RecordsState). records.cached) c.self.view_is in
    inl (pages ∙ sym (promoted-none c.args.self.now.cached c.args.slot c.requires.uncached))

pub returns-clause-reads : goal.returns-clause-reads
returns-clause-reads g c =
    let kept = rw c.slot-bytes.ensures.same at c.keep.ensures.pages in
    rw c.slot-bytes.ensures.value (step-from c.in_ok-page.ensures.reads (λ told read.
    reads-page c.self.inside.journal c.self.inside.live c.self.inside.pages c.args.self.now c.self.view_is _ (c.requires.one_disk told)
    _ c.read_page.new.self c.args.slot c.in_ok-page.page c.keep.new.self c.in_ok-page.ensures.journal kept read))

pub returns-clause-recalls : goal.returns-clause-recalls
returns-clause-recalls g c =
    let pages = ap (λ (records : RecordsState). records.cached) c.self.view_is in
    let none = ap (λ list. cached_slot list c.args.slot) pages ∙ c.requires.uncached in
    let kept = rw c.slot-bytes.ensures.same at c.keep.ensures.pages in
    rw (← c.self.view_is) (Recalls-kept c.self.inside.pages c.args.slot none c.keep.new.self c.in_ok-page.page kept)
