use Rattle.std.specs.Int.{w128}
use Rattle.std.specs.Int.Signed.{yes_non_neg}
use Rattle.std.proofs.Common.{ap, ◌∙◌}
use Rattle.std.proofs.Math.Facts.{Fits-of_lt}
use Rattle.std.proofs.lemmas.Int.{to_z-of_z}
use Rattle.ss_bounds.specs.Extremes.{listed}
use Rattle.ss_bounds.specs.Guess.{count_guess}
use Rattle.ss_bounds.proofs.MeanGuessLemmas.{few-guessed}
use Rattle.ss_bounds.proofs.likeliest.quotient_guess.Goals as goal

pub overflow_cast-count : goal.overflow_cast-count
overflow_cast-count c =
    let splits = listed c.args.left.now c.args.right.now in
    let few = few-guessed c.args.known.under c.args.left.now c.args.right.now c.count_guess-count.result c.requires.few c.look.ensures c.look-2.ensures
    (c.count_guess-count.ensures
    ∙ ap (λ z. count_guess z splits) (to_z-of_z w128 c.from.result (record { sfits = c.from.type_inv }) ∙ c.from.ensures)) in
    rw (to_z-of_z w128 c.count_guess-count.result (record { sfits = c.count_guess-count.type_inv })) (yes_non_neg few.0, Fits-of_lt few.1)
