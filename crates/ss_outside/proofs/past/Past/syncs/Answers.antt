use Rattle.std.proofs.Common.{map, ap, ◌∙◌, arith}
use Rattle.ss_outside.specs.Past.{PastState, call_of}
use Rattle.ss_outside.specs.declared.past.Change.TheVariants.{Bytes}
use Rattle.ss_outside.proofs.PastLemmas.{syncs_more_sync, syncs_more_write}
use Rattle.ss_outside.proofs.past.Past.syncs.Goals.{in-Sync, in_default}
use Rattle.ss_outside.proofs.past.Past.syncs.Goals as goal

pub loop-change-preserved : goal.loop-change-preserved
loop-change-preserved c =
    let kept = ap (map (call_of c.self.inside.pool.items)) c.deref-change-items.ensures.value ∙ ap (λ (p : PastState). p.calls) c.self.view_is in
    elim c.match-change.branch [
      | in-Sync w ↦ (let more = syncs_more_sync c.self.inside.pool.items c.deref-change-items.result.now c.args.self.now.calls kept
          c.loop-change.change-index c.loop-change-test.true (Bytes 0 0 0) w.in-Sync.is in
          (omega (arith, more, w.syncs-is, c.loop-change.invariant.0), omega (arith, w.syncs-is, c.loop-change.invariant.1)))
      | in_default w ↦ (let more = syncs_more_write c.self.inside.pool.items c.deref-change-items.result.now c.args.self.now.calls kept
          c.loop-change.change-index c.loop-change-test.true (Bytes 0 0 0) w.in_default.not-Sync in
          (omega (arith, more, w.syncs-is, c.loop-change.invariant.0), omega (arith, w.syncs-is, c.loop-change.invariant.1)))
    ]
