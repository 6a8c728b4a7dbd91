use Rattle.ss_store.proofs.Common.{◌≤◌, Ok, arith, flat_map, refl, err_from_is_err_and, on_ok_weaker, Failed, step-as, step-then}
use Rattle.ss_store.proofs.Common.{after-step, closed_state, slots_held, HasRebuilt, HasRebuiltBeside, Recovers, held_parts}
use Rattle.ss_journal.proofs.StepLemmas.{step-pair}
use Rattle.ss_stream.proofs.Calls.{Turns-failed, Turns-joined}
use Rattle.ss_stream.proofs.Within.{KeepsWithin-failed, KeepsWithin-map, KeepsWithin-then}
use Rattle.ss_store.proofs.Settlings.{AreWhole-cleared, Turns-settled, Turns-unsettled}
use Rattle.ss_store.proofs.opening.settle_all.Goals as goal

pub returns-in_err-settle-clause-settles : goal.returns-in_err-settle-clause-settles
returns-in_err-settle-clause-settles g c =
    let p = err_from_is_err_and c.from_residual.result c.from_residual.ensures.1 in
    rw (p.1, p.2)
    (step-as c.in_err-settle.ensures.settles (λ settled. record {
      turns = λ all state agree.
          Turns-unsettled c.args.doomed.now (held_parts c.args.streams.now) all
          (HasRebuilt (held_parts c.args.streams.now) (closed_state all)) _ _ _ _ refl settled.keeps_map;
      agree = λ all state agree has. tt;
      firm = λ all state agree has. tt;
      kept = tt;
      within = KeepsWithin-failed _ refl (KeepsWithin-map _ settled.keeps_map);
    }))

pub clear_all-requires-clause-live : goal.clear_all-requires-clause-live
clear_all-requires-clause-live g c = rw c.settle.ensures.live (flat_map slots_held (held_parts c.args.streams.now), c.requires.whole.slots)

pub clear_all-requires-clause-one_disk : goal.clear_all-requires-clause-one_disk
clear_all-requires-clause-one_disk g c = after-step c.in_ok-settle.ensures.settles (λ told has. has.kept)

pub returns-in_err-clear_all-clause-settles : goal.returns-in_err-clear_all-clause-settles
returns-in_err-clear_all-clause-settles g c =
    let slots = c.args.doomed.now in
    let was = held_parts c.args.streams.now in
    let p = err_from_is_err_and c.from_residual-in_err-clear_all.result c.from_residual-in_err-clear_all.ensures.1 in
    rw (p.1, p.2)
    (step-then c.in_ok-settle.ensures.settles c.in_err-clear_all.ensures.clears (λ first second. record {
      turns = λ all state agree.
          Turns-failed (HasRebuiltBeside slots was all) (Recovers (closed_state all)) (HasRebuilt was all) (HasRebuilt was (closed_state all)) _ _ _ _ refl
          (Turns-settled slots was all {F = Failed} _ _ _ tt _ first.keeps_map second.changes);
      agree = λ all state agree has. tt;
      firm = λ all state agree has. tt;
      kept = tt;
      within = KeepsWithin-then _ (KeepsWithin-map _ first.keeps_map) (KeepsWithin-failed _ refl second.within);
    }))

pub close_all-requires-clause-whole : goal.close_all-requires-clause-whole
close_all-requires-clause-whole g c =
    AreWhole-cleared c.args.doomed.now (held_parts c.args.streams.now) c.args.records.now.live c.clear_all.new.records.live c.requires.whole
    (rw c.settle.ensures.live at c.in_ok-clear_all.ensures.live)

pub close_all-requires-clause-one_disk : goal.close_all-requires-clause-one_disk
close_all-requires-clause-one_disk g c = after-step c.in_ok-clear_all.ensures.clears (λ told has. has.kept)

pub returns-clause-settles : goal.returns-clause-settles
returns-clause-settles g c =
    let slots = c.args.doomed.now in
    let was = held_parts c.args.streams.now in
    let now = held_parts c.close_all.new.streams in
    step-then (step-pair c.in_ok-settle.ensures.settles c.in_ok-clear_all.ensures.clears) c.close_all.ensures.closes (λ cleared third. record {
      turns = λ all state agree.
          Turns-joined (HasRebuiltBeside slots was all) (Recovers (closed_state all)) (HasRebuilt was all) (HasRebuilt now (closed_state all)) _ _ _ tt _
          (Turns-settled slots was all {F = Failed} _ _ _ tt (Ok tt) cleared.1.keeps_map cleared.2.changes) (third.turns all state agree);
      agree = λ all state agree has.
          third.agree all state agree
          ((Turns-settled slots was all {F = Failed} {E = Failed} _ _ _ tt (Ok tt) cleared.1.keeps_map cleared.2.changes).content has);
      firm = λ all state agree has.
          third.firm all state agree
          ((Turns-settled slots was all {F = Failed} {E = Failed} _ _ _ tt (Ok tt) cleared.1.keeps_map cleared.2.changes).content has);
      kept = third.kept;
      within = KeepsWithin-then _ (KeepsWithin-map _ cleared.1.keeps_map) (KeepsWithin-then _ cleared.2.within third.within);
    })

pub returns-clause-extent : goal.returns-clause-extent
returns-clause-extent g c =
    let settled = c.in_ok-settle.ensures.settled.extent in
    let cleared = c.in_ok-clear_all.ensures.extent in
    on_ok_weaker c.close_all.result (λ (closed : c.close_all.new.records.journal.extent ≤ c.clear_all.new.records.journal.extent).
    omega (arith, settled, cleared, closed)) c.close_all.ensures.extent
