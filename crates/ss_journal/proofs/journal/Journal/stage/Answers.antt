use Rattle.ss_journal.proofs.Common.{List, ap, arith, length, refl, ℕ, ◌+◌, ◌∙◌, Put}
use Rattle.ss_journal.proofs.NewestLemmas.{few-newest_after}
use Rattle.ss_journal.proofs.PutLemmas.{AreSlots-rise}
use Rattle.ss_journal.proofs.StageLemmas.{IsBounded-staged, has-staged, stages}
use Rattle.ss_journal.proofs.journal.Journal.stage.Goals as goal

pub add-requires-clause-slots : goal.add-requires-clause-slots
add-requires-clause-slots c = rw c.deref-2.ensures.0 (AreSlots-rise 0 _ c.requires.txn.rise)

pub add-requires-2-clause-slots : goal.add-requires-2-clause-slots
add-requires-2-clause-slots c = rw c.deref-3.ensures.0 (AreSlots-rise 0 _ c.requires.txn.rise)

pub entry_count-requires : goal.entry_count-requires
entry_count-requires c =
    let needs = rw (← c.self.view_is) at c.requires in
    omega (
      arith,
      needs.room,
      c.self.invariant.number,
      ap (λ (list : List Put). length list) (c.as_slice.ensures.all ∙ c.add-2.ensures.kept),
      few-newest_after c.deref-3.result.now c.self.inside.staged,
      ap (λ (list : List Put). length list) c.deref-3.ensures.0,
      c.requires.txn.few,
    )

pub overflow_add-self : goal.overflow_add-self
overflow_add-self c =
    let needs = rw (← c.self.view_is) at c.requires in
    omega (
      arith,
      needs.room,
      c.self.invariant.number,
      c.entry_count.ensures,
      ap (λ (list : List Put). length list) (c.as_slice.ensures.all ∙ c.add-2.ensures.kept),
      few-newest_after c.deref-3.result.now c.self.inside.staged,
      ap (λ (list : List Put). length list) c.deref-3.ensures.0,
      c.requires.txn.few,
    )

pub invariant_of-self : goal.invariant_of-self
invariant_of-self c =
    let puts = c.args.txn.now.items in
    let needs = rw (← c.self.view_is) at c.requires in
    IsBounded-staged _ _ puts c.self.invariant needs.settled (rw c.deref-2.ensures.0 at c.add.ensures.whole) c.requires.txn
    needs.fit needs.room c.add.ensures.rise c.add-2.ensures.rise (record {
      phase = needs.settled;
      extent = rw (c.extent_after-self-inside.ensures, c.deref.ensures.0);
      in_use = ap (λ (n : ℕ). c.self.inside.sealed + n) (rw (c.entry_count.ensures, c.as_slice.ensures.all));
      waiting = rw (c.add.ensures.kept, c.deref-2.ensures.0);
      sealed = refl;
      staged = rw (c.add-2.ensures.kept, c.deref-3.ensures.0);
      kind = refl;
    })

pub returns-clause-stages : goal.returns-clause-stages
returns-clause-stages c content =
    let puts = c.args.txn.now.items in
    let needs = rw (← c.self.view_is) at c.requires in
    stages _ _ puts c.self.invariant needs.settled (rw c.deref-2.ensures.0 at c.add.ensures.whole) c.requires.txn
    needs.fit needs.room c.add.ensures.rise c.add-2.ensures.rise (record {
      phase = needs.settled;
      extent = rw (c.extent_after-self-inside.ensures, c.deref.ensures.0);
      in_use = ap (λ (n : ℕ). c.self.inside.sealed + n) (rw (c.entry_count.ensures, c.as_slice.ensures.all));
      waiting = rw (c.add.ensures.kept, c.deref-2.ensures.0);
      sealed = refl;
      staged = rw (c.add-2.ensures.kept, c.deref-3.ensures.0);
      kind = refl;
    }) c.args.self.now content c.self.view_is

pub returns-clause-staged : goal.returns-clause-staged
returns-clause-staged c =
    let puts = c.args.txn.now.items in
    let needs = rw (← c.self.view_is) at c.requires in
    has-staged _ _ puts c.self.invariant needs.settled (rw c.deref-2.ensures.0 at c.add.ensures.whole) c.requires.txn
    needs.fit needs.room c.add.ensures.rise c.add-2.ensures.rise (record {
      phase = needs.settled;
      extent = rw (c.extent_after-self-inside.ensures, c.deref.ensures.0);
      in_use = ap (λ (n : ℕ). c.self.inside.sealed + n) (rw (c.entry_count.ensures, c.as_slice.ensures.all));
      waiting = rw (c.add.ensures.kept, c.deref-2.ensures.0);
      sealed = refl;
      staged = rw (c.add-2.ensures.kept, c.deref-3.ensures.0);
      kind = refl;
    }) c.args.self.now c.self.view_is
