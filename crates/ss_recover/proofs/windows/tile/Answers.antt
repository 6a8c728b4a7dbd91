use Rattle.ss_recover.proofs.Common.{◌+◌, ◌∙◌, ◌≡◌, arith, drop, subst, sym}
use Rattle.ss_recover.proofs.WindowLaws.{left-other, left-window, TilesTo, TilesTo-next, windows_at}
use Rattle.ss_recover.proofs.windows.tile.Goals.{in-None, in-Some+else-window-next}
use Rattle.ss_recover.proofs.windows.tile.Goals as goal

pub loop-one-preserved : goal.loop-one-preserved
loop-one-preserved c =
    let all = windows_at c.args.id c.args.found.now in
    let left = windows_at c.args.id (drop (c.loop-one.one-index + 1) c.args.found.now) in
    elim c.match-window_of.branch [
      | in-Some+else-window-next w ↦
          let window = w.in-Some.window in
          let at : window.first ≡ c.loop-one.next = omega (arith, w.if-window-next.false) in
          let some = left-window c.args.id c.args.found.now _ _ c.loop-one-test.true c.one-item.is window (sym c.window_of.ensures.value ∙ w.in-Some.is) in
          subst (TilesTo all left) (sym (w.next-is ∙ w.next_after-next.ensures))
          (TilesTo-next all left window c.loop-one.next (subst (λ ws. TilesTo all ws c.loop-one.next) some c.loop-one.invariant) w.in-Some.ensures.inside at)
      | in-None w ↦
          let none = left-other c.args.id c.args.found.now _ _ c.loop-one-test.true c.one-item.is (sym c.window_of.ensures.value ∙ w.in-None.is) in
          subst (TilesTo all left) (sym w.next-is) (subst (λ ws. TilesTo all ws c.loop-one.next) none c.loop-one.invariant)
    ]
