use Rattle.std.specs.Int.{w128}
use Rattle.std.proofs.Common.{ap₂, ◌∙◌}
use Rattle.std.proofs.lemmas.Int.{to_z-of_z}
use Rattle.ss_bounds.specs.Guess.{nearest, plus, whole, guess_of_count}
use Rattle.ss_bounds.proofs.MixedLemmas.{sum_of-listed}
use Rattle.ss_bounds.proofs.guess.count_guess.Goals as goal

pub nearest-requires-clause-first : goal.nearest-requires-clause-first
nearest-requires-clause-first c = c.guessed_count.ensures.fits

pub nearest-requires-clause-second : goal.nearest-requires-clause-second
nearest-requires-clause-second c = c.guessed_count-2.ensures.fits

pub returns : goal.returns
returns c =
    to_z-of_z w128 c.nearest.result (record { sfits = c.nearest.type_inv }) ∙ c.nearest.ensures _ _ c.guessed_count.ensures c.guessed_count-2.ensures
    ∙ ap₂ (λ z f. nearest (plus (whole z) f)) (to_z-of_z w128 c.args.known c.ranges.known)
    (sum_of-listed guess_of_count c.args.left c.args.right)
