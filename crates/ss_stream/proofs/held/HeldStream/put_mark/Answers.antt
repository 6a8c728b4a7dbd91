use Rattle.ss_stream.proofs.Common.{Some, arith, refl, err_from_is_err_and, step-as, DiskView, AllEndBy-later, entries_of}
use Rattle.ss_stream.proofs.Common.{StreamParts, IsOrdered, landmarks_after}
use Rattle.ss_stream.proofs.held.HeldStream.put_mark.Goals as goal
use Rattle.ss_stream.proofs.Calls.{CrashTriple-answers, CrashTriple-failed}
use Rattle.ss_stream.proofs.Marked.{IsMarked}
use Rattle.ss_stream.proofs.MarkedCalls.{AreSomeLive-last, FitsMark-valid, IsAdding-is, IsLastSlot-is, IsMarked-marked_part, LiveSlotsGo-mark_added}
use Rattle.ss_stream.proofs.MarkedCalls.{LiveSlotsGo-mark_closed, Turns-added, Turns-closed, marked_part, slots_used-adding}
use Rattle.ss_stream.proofs.OpenMarks.{AllEndBy-after}
use Rattle.ss_stream.proofs.Rising.{no-earlier, rise-later}
use Rattle.ss_stream.proofs.Costs.{StagesAtCost-answers, StagesAtCost-failed}
use Rattle.ss_stream.proofs.held.HeldStream.put_mark.Goals.{in-Open+in_ok-stage_record-in-Open, in-Close+in_ok-stage_replaced-in-Close}

pub returns-in_err-stage_record-in-Open-clause-takes : goal.returns-in_err-stage_record-in-Open-clause-takes
returns-in_err-stage_record-in-Open-clause-takes g c =
    let part = c.args.self.now.part in
    let slot = c.args.slot in
    let t = c.args.t in
    let mark = c.args.mark in
    let can = c.requires.can in
    let written = c.mark_record-written.ensures in
    let valid = rw written.value at written.valid in
    let new = marked_part part slot t mark in
    let marked = IsMarked-marked_part part slot t mark written.known can.can valid c.requires.time can.room can.value_room in
    let used = slots_used-adding mark slot (IsAdding-is mark c.in-Open.is) in
    let p = err_from_is_err_and c.from_residual.result c.from_residual.ensures.1 in
    rw (p.1, p.2)
    (step-as c.in_err-stage_record-in-Open.ensures.stages (λ made. StagesAtCost-failed _ refl (omega (arith, used)) (omega arith) made (λ added. record {
      turns = λ others s.
          CrashTriple-failed _ _ _ _ _ _ _ _ refl
          (Turns-added part new slot t mark marked can.can can.accepted c.requires.time valid others s
          c.args.records.now c.stage_record.new.records _ _ _ (IsAdding-is mark c.in-Open.is)
          (rw written.value at added));
      firm = λ others s held. tt;
    })))

pub stage_replaced-requires-clause-live : goal.stage_replaced-requires-clause-live
stage_replaced-requires-clause-live g c =
    let last = IsLastSlot-is c.args.self.now.part c.args.slot c.args.t c.args.records.now.live c.args.mark c.in-Close.is c.mark_record-written.ensures.known
    c.requires.can.can c.requires.can.in_slot in
    AreSomeLive-last c.args.self.now.part c.args.slot c.args.records.now.live last c.requires.live

pub returns-in_err-stage_replaced-in-Close-clause-takes : goal.returns-in_err-stage_replaced-in-Close-clause-takes
returns-in_err-stage_replaced-in-Close-clause-takes g c =
    let part = c.args.self.now.part in
    let slot = c.args.slot in
    let t = c.args.t in
    let mark = c.args.mark in
    let can = c.requires.can in
    let written = c.mark_record-written.ensures in
    let valid = rw written.value at written.valid in
    let new = marked_part part slot t mark in
    let marked = IsMarked-marked_part part slot t mark written.known can.can valid c.requires.time can.room can.value_room in
    let last = IsLastSlot-is part slot t c.args.records.now.live mark c.in-Close.is written.known can.can can.in_slot in
    let p = err_from_is_err_and c.from_residual-in_err-stage_replaced-in-Close.result c.from_residual-in_err-stage_replaced-in-Close.ensures.1 in
    rw (p.1, p.2)
    (step-as c.in_err-stage_replaced-in-Close.ensures.stages (λ made. StagesAtCost-failed _ refl (omega arith) (omega arith) made (λ closed. record {
      turns = λ others s.
          CrashTriple-failed _ _ _ _ _ _ _ _ refl
          (Turns-closed part new slot t mark c.in-Close.is marked can.can can.accepted c.requires.time valid written.known last others s
          c.args.records.now c.stage_replaced.new.records _ _ _
          (rw written.value at closed));
      firm = λ others s held. tt;
    })))

-- the stream as it is held then
marked : (g : _) (c : goal.After-self-1 g) →
    IsMarked c.args.self.now.part (record c.args.self.now.part { last_time = Some c.later.result; landmarks = c.take_mark.new.landmarks }) c.args.slot c.args.t
    c.args.mark
marked g c = record {
  id = refl;
  name = refl;
  target = refl;
  own_slot = refl;
  entries = refl;
  last_time = c.later.ensures;
  landmarks = c.take_mark.ensures.landmarks;
  slots = c.take_mark.ensures.slots;
  value_slots = c.take_mark.ensures.value_slots;
  known = c.take_mark.ensures.known;
}

pub returns-clause-taken : goal.returns-clause-taken
returns-clause-taken g c = record {
  landmarks = c.take_mark.ensures.landmarks;
  known = c.take_mark.ensures.known;
  last = rw c.take_mark.ensures.landmarks
      (AllEndBy-later (landmarks_after c.args.self.now.part.landmarks.landmarks c.args.t c.args.mark) c.args.t c.later.result
      (no-earlier c.args.self.now.part.last_time c.args.t c.later.result c.later.ensures).1
      (AllEndBy-after c.args.self.now.part.landmarks.landmarks c.args.t c.args.mark c.mark_record-written.ensures.known.order c.requires.can.can));
}

ordered_marked : (g : _) (c : goal.After-self-1 g) →
    IsOrdered (record c.args.self.now.part { last_time = Some c.later.result; landmarks = c.take_mark.new.landmarks })
ordered_marked g c =
    let part = c.args.self.now.part in
    let can = c.requires.can in
    record {
      tiles = can.ordered.tiles;
      times = rise-later part.last_time (Some c.later.result) (entries_of part) (no-earlier part.last_time c.args.t c.later.result c.later.ensures).0
          can.ordered.times;
    }

pub returns-clause-whole : goal.returns-clause-whole
returns-clause-whole g c =
    let part = c.args.self.now.part in
    let slot = c.args.slot in
    let t = c.args.t in
    let mark = c.args.mark in
    let was = c.args.records.now in
    let new : StreamParts = record part { last_time = Some c.later.result; landmarks = c.take_mark.new.landmarks } in
    elim c.match-mark.branch [
      | in-Open+in_ok-stage_record-in-Open w ↦
          (let done = w.in_ok-stage_record-in-Open.ensures in
          rw w.records-is (record {
            ordered = ordered_marked g c;
            live = LiveSlotsGo-mark_added part new slot t mark (marked g c) (IsAdding-is mark w.in-Open.is) was.live w.stage_record.new.records.live
                done.live;
            settled = done.settled;
            extent = rw (slots_used-adding mark slot (IsAdding-is mark w.in-Open.is)) done.extent;
          }))
      | in-Close+in_ok-stage_replaced-in-Close w ↦
          (let done = w.in_ok-stage_replaced-in-Close.ensures in
          rw w.records-is (record {
            ordered = ordered_marked g c;
            live = LiveSlotsGo-mark_closed part new slot t mark w.in-Close.is (marked g c) was.live w.stage_replaced.new.records.live
                w.stage_replaced.ensures.live;
            settled = done.settled;
            extent = rw done.extent (omega arith);
          }))
    ]

pub returns-clause-takes : goal.returns-clause-takes
returns-clause-takes g c =
    let part = c.args.self.now.part in
    let slot = c.args.slot in
    let t = c.args.t in
    let mark = c.args.mark in
    let can = c.requires.can in
    let written = c.mark_record-written.ensures in
    let valid = rw written.value at written.valid in
    let new : StreamParts = record part { last_time = Some c.later.result; landmarks = c.take_mark.new.landmarks } in
    let old : DiskView = g.D.Disk.seen c.args.disk.now in
    elim c.match-mark.branch [
      | in-Open+in_ok-stage_record-in-Open w ↦
          (let used = slots_used-adding mark slot (IsAdding-is mark w.in-Open.is) in
          rw (w.records-is, w.disk-is)
          (step-as w.in_ok-stage_record-in-Open.ensures.stages (λ made. StagesAtCost-answers _ (omega (arith, used)) (omega arith) made (λ added. record {
            turns = λ others s.
                CrashTriple-answers _ _ _ _ _ tt _
                (Turns-added part new slot t mark (marked g c) can.can can.accepted c.requires.time valid others s
                c.args.records.now w.stage_record.new.records _ _ _ (IsAdding-is mark w.in-Open.is)
                (rw written.value at added));
            firm = λ others s held. tt;
          }))))
      | in-Close+in_ok-stage_replaced-in-Close w ↦
          (let last = IsLastSlot-is part slot t c.args.records.now.live mark w.in-Close.is written.known can.can can.in_slot in
          rw (w.records-is, w.disk-is)
          (step-as w.in_ok-stage_replaced-in-Close.ensures.stages (λ made. StagesAtCost-answers _ (omega arith) (omega arith) made (λ closed. record {
            turns = λ others s.
                CrashTriple-answers _ _ _ _ _ tt _
                (Turns-closed part new slot t mark w.in-Close.is (marked g c) can.can can.accepted c.requires.time valid written.known last others s
                c.args.records.now w.stage_replaced.new.records _ _ _
                (rw written.value at closed));
            firm = λ others s held. tt;
          }))))
    ]

pub returns-in_err-stage_record-in-Open-clause-fits : goal.returns-in_err-stage_record-in-Open-clause-fits
returns-in_err-stage_record-in-Open-clause-fits g c =
    FitsMark-valid c.args.self.now.part c.args.t c.args.mark (rw c.mark_record-written.ensures.value at c.mark_record-written.ensures.valid)

pub returns-in_err-stage_replaced-in-Close-clause-fits : goal.returns-in_err-stage_replaced-in-Close-clause-fits
returns-in_err-stage_replaced-in-Close-clause-fits g c =
    FitsMark-valid c.args.self.now.part c.args.t c.args.mark (rw c.mark_record-written.ensures.value at c.mark_record-written.ensures.valid)

pub returns-clause-fits : goal.returns-clause-fits
returns-clause-fits g c =
    FitsMark-valid c.args.self.now.part c.args.t c.args.mark (rw c.mark_record-written.ensures.value at c.mark_record-written.ensures.valid)
