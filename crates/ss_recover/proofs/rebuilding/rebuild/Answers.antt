use Rattle.ss_recover.proofs.Common.{◌∙◌, All, All-permutation, ap, LiveLieBelow, AreFound, AreWholeBeside, arith, Counted, Err, err_from_is_err_and, Found}
use Rattle.ss_recover.proofs.Common.{found_key, IsUsable, JournalState, length, length_permutation, List, Ok, RecordsState, refl, Rises, step-from, subst, sym}
use Rattle.ss_recover.proofs.Common.{WalksAs}
use Rattle.ss_outside.proofs.StepLemmas.{step-verdict}
use Rattle.ss_recover.proofs.GatherLemmas.{AreLiveOver-read, few-gathered, IsKept-read, slots-gathered, verdict-told}
use Rattle.ss_recover.proofs.InOrder.{Rises-in_order}
use Rattle.ss_recover.proofs.RebuiltParts.{rebuilds, refuses-found, walk-verdict, whole-from_walk}
use Rattle.ss_parts.proofs.WholeMaps.{HasWholeSlots-StandsFor}
use Rattle.ss_recover.proofs.rebuilding.rebuild.Goals as goal

pub returns-in_err-read-clause-rebuilds : goal.returns-in_err-read-clause-rebuilds
returns-in_err-read-clause-rebuilds g c =
    let why = c.in_err-read.field-0.0 in
    let p = err_from_is_err_and c.from_residual.result c.from_residual.ensures.1 in
    rw (p.1, p.2) (step-verdict (verdict-told (Unit {0}) (Unit {0}) why) c.in_err-read.ensures.gathers (λ finds. record {
      carried = λ found stands. refuses-found found why (finds.found found stands);
      kept = tt;
      reads = finds.reads;
    }))

pub returns-clause-rebuilds : goal.returns-clause-rebuilds
returns-clause-rebuilds g c =
    let read = c.in_ok-read.read in
    let sorted = c.sort.new.all.items in
    let walks : WalksAs sorted (Ok c.in_ok-parts.parts) =
    subst (λ (fs : List Found). WalksAs fs (Ok c.in_ok-parts.parts)) c.deref.ensures.value c.in_ok-parts.ensures in
    step-from c.in_ok-read.ensures.gathers (λ told finds. record {
      carried = λ found stands.
          let below = finds.found found stands in
          let are : AreFound read.all.items found = record { occupied_by = below.are.occupied_by; spelled_all = below.are.spelled_all } in
          rebuilds found read.all.items sorted (Ok c.in_ok-parts.parts) (HasWholeSlots-StandsFor _ found stands) are
          c.in_ok-read.ensures.gathered.usable c.in_ok-sort.ensures.order c.sort.ensures.permutation walks;
      kept = c.in_ok-records.ensures.kept _
          (IsKept-read c.args.journal c.gather.new.journal _ _ c.in_ok-read.ensures.journal finds.reads.same.content (c.requires.one_disk told))
          (AreLiveOver-read c.args.journal c.gather.new.journal _ _ c.in_ok-read.ensures.journal finds.reads.same.content (c.requires.one_disk told)
          read c.requires.sealed finds.found);
      reads = finds.reads;
    })

pub returns-in_err-parts-clause-rebuilds : goal.returns-in_err-parts-clause-rebuilds
returns-in_err-parts-clause-rebuilds g c =
    let read = c.in_ok-read.read in
    let sorted = c.sort.new.all.items in
    let e = c.in_err-parts.field-0.0 in
    let p = err_from_is_err_and c.from_residual-in_err-parts.result c.from_residual-in_err-parts.ensures.1 in
    let walks : WalksAs sorted (Err e) = subst (λ (fs : List Found). WalksAs fs (Err e)) c.deref.ensures.value c.in_err-parts.ensures in
    let step = c.in_ok-read.ensures.gathers in
    rw (p.1, p.2) (record {
      tells = step.tells;
      counted = walk-verdict (λ v. Counted v (g.D.Disk.seen c.args.disk.now).faults (g.D.Disk.seen c.gather.new.disk).faults) sorted (Err e) walks
          step.counted step.counted step.counted;
      told = λ told.
          let finds = step.told told in
          record {
            carried = λ found stands.
                let below = finds.found found stands in
                let are : AreFound read.all.items found = record { occupied_by = below.are.occupied_by; spelled_all = below.are.spelled_all } in
                rebuilds found read.all.items sorted (Err e) (HasWholeSlots-StandsFor _ found stands) are
                c.in_ok-read.ensures.gathered.usable c.in_ok-sort.ensures.order c.sort.ensures.permutation walks;
            kept = tt;
            reads = finds.reads;
          };
    })

pub returns-clause-whole : goal.returns-clause-whole
returns-clause-whole g c =
    let read = c.in_ok-read.read in
    let parts = c.in_ok-parts.parts in
    let sorted = c.sort.new.all.items in
    let walks : WalksAs sorted (Ok parts) = subst (λ (fs : List Found). WalksAs fs (Ok parts)) c.deref.ensures.value c.in_ok-parts.ensures in
    subst (λ (r : RecordsState). AreWholeBeside parts.doomed.items parts.streams.items r.live) (sym c.in_ok-records.ensures.over)
    (whole-from_walk read.live read.all.items sorted (Ok parts)
    (slots-gathered c.args.journal.extent read c.in_ok-read.ensures.gathered) c.sort.ensures.permutation walks)

pub returns-clause-journal : goal.returns-clause-journal
returns-clause-journal g c = ap (λ (r : RecordsState). r.journal) c.in_ok-records.ensures.over ∙ c.in_ok-read.ensures.journal

pub over-requires : goal.over-requires
over-requires g c = record {
  bounded = subst (λ (j : JournalState). LiveLieBelow j.extent c.in_ok-read.read.live) (sym c.in_ok-read.ensures.journal) c.in_ok-read.ensures.gathered.bounded;
}

pub streams_of-requires-clause-usable : goal.streams_of-requires-clause-usable
streams_of-requires-clause-usable g c =
    subst (All (λ (f : Found). IsUsable f.holds)) (sym c.deref.ensures.value)
    (All-permutation (λ (f : Found). IsUsable f.holds) c.in_ok-read.read.all.items c.sort.new.all.items c.sort.ensures.permutation
    c.in_ok-read.ensures.gathered.usable)

pub streams_of-requires-clause-order : goal.streams_of-requires-clause-order
streams_of-requires-clause-order g c =
    subst (Rises found_key) (sym (c.deref.ensures.value ∙ c.in_ok-sort.ensures.order)) (Rises-in_order found_key c.in_ok-read.read.all.items)

pub streams_of-requires-clause-few : goal.streams_of-requires-clause-few
streams_of-requires-clause-few g c =
    omega (
      arith,
      ap (λ (fs : List Found). length fs) c.deref.ensures.value,
      length_permutation c.in_ok-read.read.all.items c.sort.new.all.items c.sort.ensures.permutation,
      few-gathered c.args.journal.extent c.in_ok-read.read c.in_ok-read.ensures.gathered,
    )

pub streams_of-requires-clause-blank : goal.streams_of-requires-clause-blank
streams_of-requires-clause-blank g c = record { same_name = refl; same_parts = refl; some = omega (arith, c.new.ensures) }
