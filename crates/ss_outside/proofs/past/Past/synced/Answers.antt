use Rattle.std.proofs.Common.{ℕ, ap, map, ◌∙◌, take, ◌+◌}
use Rattle.ss_outside.specs.Past.{PastState, CountsToSync, call_of}
use Rattle.ss_outside.specs.declared.past.Change.TheVariants.{Bytes}
use Rattle.ss_outside.proofs.PastLemmas.{counts_more_sync, counts_more_write}
use Rattle.ss_outside.proofs.past.Past.synced.Goals.{in-Sync, in_default}
use Rattle.ss_outside.proofs.past.Past.synced.Goals as goal

pub loop-k-preserved : goal.loop-k-preserved
loop-k-preserved c =
    let kept = ap (map (call_of c.self.inside.pool.items)) c.deref-change-items.ensures.value ∙ ap (λ (p : PastState). p.calls) c.self.view_is in
    let P : ℕ → Type 0 = λ n. CountsToSync n (take (c.loop-k.k + 1) c.args.self.now.calls) in
    elim c.match-change.branch [
      | in-Sync w ↦ rw w.synced-is
          (counts_more_sync c.self.inside.pool.items c.deref-change-items.result.now c.args.self.now.calls kept c.loop-k.k c.loop-k-test.true (Bytes 0 0 0)
          w.in-Sync.is)
      | in_default w ↦ rw w.synced-is (counts_more_write c.self.inside.pool.items c.deref-change-items.result.now c.args.self.now.calls kept
          c.loop-k.k c.loop-k-test.true (Bytes 0 0 0) c.loop-k.synced c.loop-k.invariant w.in_default.not-Sync)
    ]
