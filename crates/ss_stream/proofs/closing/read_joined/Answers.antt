use Rattle.ss_stream.proofs.Common.{◌≡◌, ◌∙◌, ◌∷◌, ap, ap₂, arith, [], Option, Some, ℕ, err_from_is_err_and, reads-joined, step-as, step-then, Record}
use Rattle.ss_stream.proofs.Common.{window_record, joined}
use Rattle.ss_stream.proofs.closing.read_joined.Goals as goal
use Rattle.ss_stream.proofs.Readings.{HasRecords-second, IsRead-err, live-below, live-below_second, shown-same}

pub read_window-requires-clause-slot : goal.read_window-requires-clause-slot
read_window-requires-clause-slot g c =
    let below = live-below c.args.window.slot (c.args.next.slot ∷ []) c.args.records.now.live c.requires.live in
    omega (arith, below, c.live-live.ensures.sound.slots)

pub read_window-requires-2-clause-slot : goal.read_window-requires-2-clause-slot
read_window-requires-2-clause-slot g c =
    let below = live-below_second c.args.window.slot c.args.next.slot [] c.args.records.now.live c.requires.live in
    omega (arith, below, c.live-live.ensures.sound.slots)

pub returns-in_err-older-clause-joined : goal.returns-in_err-older-clause-joined
returns-in_err-older-clause-joined g c =
    let p = err_from_is_err_and c.from_residual.result c.from_residual.ensures.1 in
    let number = c.args.part.now.id.0 in
    rw (p.1, p.2)
    (step-as c.in_err-older.ensures.reads (λ first. record {
      joined = λ others w v has same second times second_times free second_free later.
          IsRead-err w.summary (joined w.summary v.summary) c.in_err-older.field-0.0
          (first.window ((c.args.next.slot, Some (window_record number v)) ∷ others) w has same times free);
      kept = tt;
      reads = first.reads;
    }))

pub returns-in_err-newer-clause-joined : goal.returns-in_err-newer-clause-joined
returns-in_err-newer-clause-joined g c =
    let p = err_from_is_err_and c.from_residual-in_err-newer.result c.from_residual-in_err-newer.ensures.1 in
    let number = c.args.part.now.id.0 in
    rw (p.1, p.2)
    (step-then c.in_ok-older.ensures.reads c.in_err-newer.ensures.reads (λ first then. record {
      joined = λ others w v has same second times second_times free second_free later.
          let one : ℕ × Option Record = (c.args.window.slot, Some (window_record number w)) in
          IsRead-err v.summary (joined w.summary v.summary) c.in_err-newer.field-0.0
          (then.window (one ∷ others) v
          (HasRecords-second one (c.args.next.slot, Some (window_record number v)) others _ _
          (shown-same c.args.records.now c.read_window.new.records _ _ c.in_ok-older.ensures.records.journal first.reads.same.content) has) second second_times
          second_free);
      kept = tt;
      reads = reads-joined _ _ _ first.reads then.reads;
    }))

pub join-requires-clause-later : goal.join-requires-clause-later
join-requires-clause-later g c =
    let last = ap (λ (p : ℕ × ℕ). p.1) c.in_ok-older.ensures.window.times in
    let first = ap (λ (p : ℕ × ℕ). p.0) c.in_ok-newer.ensures.window.times in
    omega (arith, last, first, c.requires.neighbours.later)

pub returns-clause-joined : goal.returns-clause-joined
returns-clause-joined g c =
    let number = c.args.part.now.id.0 in
    step-then c.in_ok-older.ensures.reads c.in_ok-newer.ensures.reads (λ first then. record {
      joined = λ others w v has same second times second_times free second_free later.
          let one : ℕ × Option Record = (c.args.window.slot, Some (window_record number w)) in
          let older : c.in_ok-older.older ≡ w.summary = first.window ((c.args.next.slot, Some (window_record number v)) ∷ others) w has same times free in
          let newer : c.in_ok-newer.newer ≡ v.summary =
          then.window (one ∷ others) v
          (HasRecords-second one (c.args.next.slot, Some (window_record number v)) others _ _
          (shown-same c.args.records.now c.read_window.new.records _ _ c.in_ok-older.ensures.records.journal first.reads.same.content) has) second second_times
          second_free in
          c.join.ensures.exact ∙ ap₂ joined older newer;
      kept = then.kept;
      reads = reads-joined _ _ _ first.reads then.reads;
    })
