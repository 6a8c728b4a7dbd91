use Rattle.std.proofs.Common.{◌≡◌, ◌∙◌, ap, not, arith, true}
use Rattle.std.proofs.lemmas.Bool.{both_ways, true_from_ne_false}
use Rattle.std.specs.Option.{is_some}
use Rattle.ss_landmarks.specs.Landmark.{open_landmark}
use Rattle.ss_landmarks.proofs.TimeLemmas.{CanTake-after}
use Rattle.test_window.proofs.landmarks.add.Goals as goal

pub add-requires-clause-after : goal.add-requires-clause-after
add-requires-clause-after c =
    let told : is_some c.opened.result ≡ true = c.is_none.ensures ∙ ap not c.if-is_none.false in
    let some = true_from_ne_false (is_some (open_landmark c.args.landmarks.now.landmarks)) (λ none. both_ways _ (c.opened.ensures.none.1 none) told) in
    CanTake-after c.args.landmarks.now.landmarks c.args.last c.args.t c.requires.ends some (omega (arith, c.if-t-last.false))
