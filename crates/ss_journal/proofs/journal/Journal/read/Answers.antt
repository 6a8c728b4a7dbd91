use Rattle.ss_journal.proofs.Common.{◌≡◌, inl, inr, sym, ◌∙◌, rules, same_true, reads-none, step-none, the_type, Unborn, file_map}
use Rattle.ss_journal.proofs.KeptLemmas.{ReadsSlot-as, unused_bytes, unborn-shown, born-shown, born_bytes, not_first, slot_in-form, slot_lies, slot_bytes}
use Rattle.ss_journal.proofs.ShownLemmas.{slot_at-shown}
use Rattle.ss_journal.proofs.StepLemmas.{step-from}
use Rattle.ss_journal.proofs.journal.Journal.read.Goals as goal
use Rattle.ss_journal.proofs.journal.Journal.read.Goals.{then-eq-via-then-eq, then-eq-via-else-eq+then-slot-self}

pub returns-then-eq-clause-reads : goal.returns-then-eq-clause-reads
returns-then-eq-clause-reads g c =
    let content = (g.D.Disk.seen c.args.disk.now).told.content in
    step-none _ _ (λ told.
    let kept = rw (← c.self.view_is) at (c.requires.one_disk told) in
    ReadsSlot-as c.self.view_is (record {
      bytes = λ found is. elim c.then-eq.branch [
        | then-eq-via-then-eq w ↦
            let same : c.self.inside.phase ≡ Unborn = same_true the_type (search rules) c.self.inside.phase Unborn (sym w.if-eq.ensures) in
            unused_bytes _ _ found c.args.slot kept.shown is c.requires.slot (inl (unborn-shown _ _ same kept.shown))
        | then-eq-via-else-eq+then-slot-self w ↦ unused_bytes _ _ found c.args.slot kept.shown is c.requires.slot (inr w.if-slot-self.true)
      ];
      reads = reads-none _;
    }))

pub returns-in-Some-clause-reads : goal.returns-in-Some-clause-reads
returns-in-Some-clause-reads g c =
    let content = (g.D.Disk.seen c.args.disk.now).told.content in
    step-none _ _ (λ told.
    let kept = rw (← c.self.view_is) at (c.requires.one_disk told) in
    let born = born-shown _ _ (not_first c.self.inside.phase (sym c.if-eq.ensures)) kept.shown in
    ReadsSlot-as c.self.view_is (record {
      bytes = λ found is. sym (c.in-Some.ensures (file_map _).bytes) ∙ born_bytes _ _ found c.args.slot kept.shown is c.requires.slot born;
      reads = reads-none _;
    }))

pub returns-in-Ok-clause-reads : goal.returns-in-Ok-clause-reads
returns-in-Ok-clause-reads g c =
    let content = (g.D.Disk.seen c.args.disk.now).told.content in
    step-from c.in-Ok.ensures (λ told read.
    let kept = rw (← c.self.view_is) at (c.requires.one_disk told) in
    let born = born-shown _ _ (not_first c.self.inside.phase (sym c.if-eq.ensures)) kept.shown in
    let leaves = c.in_default.ensures in
    ReadsSlot-as c.self.view_is (record {
      bytes = λ found is.
          let lies = slot_lies _ _ found c.args.slot kept.shown is c.requires.slot born c.if-slot-self.false leaves in
          let same = slot_at-shown _ content c.self.invariant kept born c.args.slot lies in
          c.slot_form.ensures ∙ slot_in-form _ _ found c.args.slot kept.shown is c.requires.slot _ (read.found same.0 ∙ same.1)
          ∙ slot_bytes _ _ found c.args.slot kept.shown is c.requires.slot born c.if-slot-self.false leaves;
      reads = read.reads;
    }))
