use Rattle.std.proofs.Common.{sym, ◌∙◌, arith}
use Rattle.ss_landmarks.proofs.TimeLemmas.{CanOpen-after}
use Rattle.test_window.proofs.landmarks.open.Goals as goal

pub start-requires-clause-after : goal.start-requires-clause-after
start-requires-clause-after c =
    let none = c.opened.ensures.none.0 (sym c.is_some.ensures ∙ c.if-is_some.false) in
    CanOpen-after c.args.landmarks.now.landmarks c.args.last c.args.t c.requires.ends none (omega (arith, c.if-t-last.false))
