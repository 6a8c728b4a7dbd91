use Rattle.std.proofs.Common.{◌≡◌, List, ℕ, ap, map, sym, ◌∙◌, take, drop, ◌+◌, ◌-◌, arith}
use Rattle.std.proofs.lemmas.List.{take-map}
use Rattle.ss_outside.specs.Past.{PastState, call_of}
use Rattle.ss_outside.specs.Disk.{overwrite}
use Rattle.ss_outside.specs.MemDisk.{fresh}
use Rattle.ss_outside.specs.declared.past.Change.TheVariants.{Bytes}
use Rattle.ss_outside.proofs.PastLemmas.{replay_more, content_more}
use Rattle.ss_outside.proofs.past.Past.content_after.Goals.{in-Bytes+in_ok-overwrite_at, in_default}
use Rattle.ss_outside.proofs.past.Past.content_after.Goals as goal

pub loop-change-preserved : goal.loop-change-preserved
loop-change-preserved c =
    let pool = c.self.inside.pool.items in
    let changes = take c.args.calls c.deref.result.now in
    let calls = take c.args.calls c.args.self.now.calls in
    let kept : map (call_of pool) changes ≡ calls =
    sym (take-map (call_of pool) c.args.calls c.deref.result.now)
    ∙ ap (take c.args.calls) (ap (map (call_of pool)) c.deref.ensures.value ∙ ap (λ (p : PastState). p.calls) c.self.view_is) in
    elim c.match-change.branch [
      | in-Bytes+in_ok-overwrite_at w ↦
          let more = replay_more pool changes calls kept c.loop-change.change-index c.loop-change-test.true (Bytes 0 0 0) (fresh c.args.start.now)
          (Bytes w.in-Bytes.at w.in-Bytes.from w.in-Bytes.count) w.in-Bytes.is in
          let bytes : take (w.in-Bytes.from + w.in-Bytes.count - w.in-Bytes.from) (drop w.in-Bytes.from w.deref-in-Bytes.result.now) ≡ take
          w.in-Bytes.count (drop w.in-Bytes.from pool) =
          ap (λ (n : ℕ). take n (drop w.in-Bytes.from w.deref-in-Bytes.result.now)) (omega arith) ∙
          ap (λ (l : List ℕ). take w.in-Bytes.count (drop w.in-Bytes.from l)) w.deref-in-Bytes.ensures.value in
          rw (w.content-is, more) (w.in_ok-overwrite_at.ensures.done ∙ (λ i. overwrite (c.loop-change.invariant i) w.in-Bytes.at (bytes i)))
      | in_default w ↦ rw w.content-is (content_more pool changes calls kept c.loop-change.change-index c.loop-change-test.true (Bytes 0 0 0)
          (fresh c.args.start.now) c.loop-change.content.items c.loop-change.invariant w.in_default.not-Bytes)
    ]
