use Rattle.ss_journal.proofs.Common.{◌≡◌, ◌*◌, ◌+◌, ◌∙◌, ◌<◌, ◌^◌, inl, sym, ap, arith, rules, same_true, reads-none, step-none, the_type}
use Rattle.ss_journal.proofs.Common.{Unborn, slot_in_page, slot_form}
use Rattle.ss_journal.proofs.CheckLemmas.{slot_form-zeros}
use Rattle.ss_journal.proofs.KeptLemmas.{ReadsPage-as, born-shown, not_first, page_bytes, slot_in-form, unborn-shown, unused_bytes}
use Rattle.ss_journal.proofs.PageLemmas.{slot_in_page-zeros}
use Rattle.ss_journal.proofs.ShownLemmas.{slot_at-shown}
use Rattle.ss_journal.proofs.StepLemmas.{step-from}
use Rattle.ss_journal.proofs.journal.Journal.read_page.Goals as goal

pub returns-then-eq-clause-reads : goal.returns-then-eq-clause-reads
returns-then-eq-clause-reads g c =
    let content = (g.D.Disk.seen c.args.disk.now).told.content in
    step-none _ _ (λ told.
    let kept = rw (← c.self.view_is) at (c.requires.one_disk told) in
    let same : c.self.inside.phase ≡ Unborn = same_true the_type (search rules) c.self.inside.phase Unborn (sym c.if-eq.ensures) in
    ReadsPage-as c.self.view_is (record {
      bytes = λ found is k lt.
          let slot = 32 * c.args.page + k in
          let below : slot < 2 ^ 20 = omega (arith, lt, c.requires.page) in
          c.new.ensures k lt ∙ ap (slot_form c.self.inside.kind slot) (slot_in_page-zeros k lt) ∙ slot_form-zeros c.self.inside.kind slot
          ∙ unused_bytes _ _ found slot kept.shown is below (inl (unborn-shown _ _ same kept.shown));
      reads = reads-none _;
    }))

pub returns-in-Ok-clause-reads : goal.returns-in-Ok-clause-reads
returns-in-Ok-clause-reads g c =
    let content = (g.D.Disk.seen c.args.disk.now).told.content in
    let kind = c.self.inside.kind in
    step-from c.in-Ok.ensures (λ told read.
    let kept = rw (← c.self.view_is) at (c.requires.one_disk told) in
    let born = born-shown _ _ (not_first c.self.inside.phase (sym c.if-eq.ensures)) kept.shown in
    ReadsPage-as c.self.view_is (record {
      bytes = λ found is k lt.
          let slot = 32 * c.args.page + k in
          let below : slot < 2 ^ 20 = omega (arith, lt, c.requires.page) in
          page_bytes _ _ found slot kept.shown is below born _ (slot_in_page c.new-read.result k) (slot_in_page c.lay_puts.new.page k)
          (λ lies. let same = slot_at-shown _ content c.self.invariant kept born slot lies in
          slot_in-form _ _ found slot kept.shown is below _ (read.found k lt same.0 ∙ same.1))
          (λ used. c.new-read.ensures k lt ∙ ap (slot_form kind slot) (c.clear_unused.ensures.used k lt used))
          (λ past. c.new-read.ensures k lt ∙ ap (slot_form kind slot) (c.clear_unused.ensures.unused k lt past) ∙ slot_form-zeros kind slot)
          (rw (c.lay_puts.ensures k lt, c.as_slice.ensures.all));
      reads = read.reads;
    }))
