use Rattle.ss_recover.proofs.Common.{[], ◌++◌, ◌+◌, ◌∙◌, ◌∷◌, ◌≡◌, ap, AreWindowsOf, arith, Found, length-take, List, stream_of, subst, sym, take, take_more}
use Rattle.ss_recover.proofs.WindowLaws.{AreWindowsOf-more, AreWindowsOf-other, each-at, room-windows}
use Rattle.ss_recover.proofs.windows.windows_of.Goals.{in-None, in-Some+in_ok-put-in-Some}
use Rattle.ss_recover.proofs.windows.windows_of.Goals as goal

pub put-requires-clause-room : goal.put-requires-clause-room
put-requires-clause-room g c =
    let all = c.args.found.now in
    let i = c.loop-one.one-index in
    room-windows c.args.id (take i all) c.loop-one.windows c.loop-one.invariant (omega (arith, c.loop-one-test.true, c.requires.few, length-take i all))

pub loop-one-preserved : goal.loop-one-preserved
loop-one-preserved g c =
    let all = c.args.found.now in
    let i = c.loop-one.one-index in
    let x = c.one-item.result in
    let lt = c.loop-one-test.true in
    let taken : take (i + 1) all ≡ take i all ++ x ∷ [] = take_more all i x lt ∙ ap (λ (y : Found). take i all ++ y ∷ []) (sym c.one-item.is) in
    elim c.match-window_of.branch [
      | in-Some+in_ok-put-in-Some w ↦
          subst (AreWindowsOf c.args.id (take (i + 1) all)) (sym w.windows-is) (subst (λ (l : List Found). AreWindowsOf c.args.id l w.put.new.self) (sym taken)
          (AreWindowsOf-more c.args.id (take i all) x c.loop-one.windows c.loop-one.invariant w.in-Some.window (sym c.window_of.ensures.value ∙ w.in-Some.is)
          w.put.new.self w.in_ok-put-in-Some.ensures.ok))
      | in-None w ↦
          subst (AreWindowsOf c.args.id (take (i + 1) all)) (sym w.windows-is)
          (subst (λ (l : List Found). AreWindowsOf c.args.id l c.loop-one.windows) (sym taken)
          (AreWindowsOf-other c.args.id (take i all) x c.loop-one.windows c.loop-one.invariant
          (each-at (λ f. stream_of f.holds ≡ c.args.id) all i x c.requires.own lt c.one-item.is) (sym c.window_of.ensures.value ∙ w.in-None.is)))
    ]
