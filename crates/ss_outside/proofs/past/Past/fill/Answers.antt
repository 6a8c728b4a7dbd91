use Rattle.std.proofs.Common.{◌≡◌, ◌≤◌, ℕ, ap, map, sym, ◌∙◌, take, drop, length, ◌-◌, arith, subst}
use Rattle.std.proofs.lemmas.List.{drop-map, take_rest, length-take, length-drop}
use Rattle.ss_outside.specs.Past.{PastState, call_of, LiesWithin}
use Rattle.ss_outside.specs.Disk.{overwrite}
use Rattle.std.specs.Prelude.{All}
use Rattle.std.proofs.lemmas.List.Elements.{All-take, All-drop, All-same}
use Rattle.ss_outside.specs.Choice.{IsFilled}
use Rattle.ss_outside.specs.MemDisk.{fresh, pend, replay}
use Rattle.ss_outside.specs.declared.past.Change.TheVariants.{Bytes, Torn}
use Rattle.ss_outside.proofs.PastLemmas.{replay_more, no_sync, filled_more, synced_no_longer}
use Rattle.ss_outside.proofs.past.Past.fill.Goals.{in-Bytes+in_ok-fill_at-in-Bytes, in-Torn+in_ok-fill_at-in-Torn, in-Sync}
use Rattle.ss_outside.proofs.past.Past.fill.Goals as goal

pub loop-change-preserved : goal.loop-change-preserved
loop-change-preserved c =
    let pool = c.self.inside.pool.items in
    let changes = take (length c.deref.result.now - c.args.synced) (drop c.args.synced c.deref.result.now) in
    let calls = drop c.args.synced c.args.self.now.calls in
    let kept : map (call_of pool) changes ≡ calls =
    ap (map (call_of pool)) (take_rest c.deref.result.now c.args.synced) ∙ sym (drop-map (call_of pool) c.args.synced c.deref.result.now)
    ∙ ap (drop c.args.synced) (ap (map (call_of pool)) c.deref.ensures.value ∙ ap (λ (p : PastState). p.calls) c.self.view_is) in
    let before = replay (fresh c.args.image.now.items) (take c.loop-change.change-index calls) in
    let short : length before.synced ≤ before.longest = synced_no_longer (fresh c.args.image.now.items) (take c.loop-change.change-index calls) (omega arith) in
    let all : All (LiesWithin (length pool)) changes =
    All-take (LiesWithin (length pool)) (length c.deref.result.now - c.args.synced) (drop c.args.synced c.deref.result.now)
    (All-drop (LiesWithin (length pool)) c.args.synced c.deref.result.now
    (All-same (LiesWithin (length pool)) c.deref.result.now c.self.inside.changes.items c.deref.ensures.value c.self.invariant.0)) in
    elim c.match-change.branch [
      | in-Bytes+in_ok-fill_at-in-Bytes w ↦
          let more = replay_more pool changes calls kept c.loop-change.change-index c.loop-change-test.true (Bytes 0 0 0)
          (fresh c.args.image.now.items) (Bytes w.in-Bytes.at w.in-Bytes.from w.in-Bytes.count) w.in-Bytes.is in
          let bytes = take w.in-Bytes.count (drop w.in-Bytes.from pool) in
          let room : LiesWithin (length pool) (Bytes w.in-Bytes.at w.in-Bytes.from w.in-Bytes.count) =
          rw w.in-Bytes.is at (all c.loop-change.change-index (Bytes 0 0 0) c.loop-change-test.true) in
          let size : length bytes ≡ w.in-Bytes.count =
          omega (arith, room.0, length-take w.in-Bytes.count (drop w.in-Bytes.from pool), length-drop w.in-Bytes.from pool) in
          let content = overwrite before.content w.in-Bytes.at bytes in
          let filled = filled_more before c.args.byte c.loop-change.image.items w.fill_at.new.image.items w.in-Bytes.at w.in-Bytes.count content short
          c.loop-change.invariant w.in_ok-fill_at-in-Bytes.ensures.length w.in_ok-fill_at-in-Bytes.ensures.kept w.in_ok-fill_at-in-Bytes.ensures.filled in
          rw (w.image-is, more) (subst (λ (n : ℕ). IsFilled (pend before w.in-Bytes.at n content) c.args.byte w.fill_at.new.image.items) (sym size) filled)
      | in-Torn+in_ok-fill_at-in-Torn w ↦
          let more = replay_more pool changes calls kept c.loop-change.change-index c.loop-change-test.true (Bytes 0 0 0)
          (fresh c.args.image.now.items) (Torn w.in-Torn.at w.in-Torn.count) w.in-Torn.is in
          rw (w.image-is, more) (filled_more before c.args.byte c.loop-change.image.items w.fill_at-in-Torn.new.image.items w.in-Torn.at
          w.in-Torn.count before.content short c.loop-change.invariant w.in_ok-fill_at-in-Torn.ensures.length w.in_ok-fill_at-in-Torn.ensures.kept
          w.in_ok-fill_at-in-Torn.ensures.filled)
      | in-Sync w ↦ absurd (no_sync pool changes calls kept c.loop-change.change-index c.loop-change-test.true (Bytes 0 0 0) c.requires.since w.in-Sync.is)
    ]
