use Rattle.ss_bounds.proofs.MixedLemmas.{computed-nearest}
use Rattle.ss_bounds.proofs.guess.nearest.Goals as goal

pub returns : goal.returns
returns c =
    computed-nearest c.args.known c.args.left c.args.right c.compare_with_halves-half.result c.compare_with_halves-more.result
    c.is_even.result c.rise.result c.requires.known c.requires.first c.requires.second c.rise.ensures.value c.rise.ensures.small
    c.is_even.ensures c.compare_with_halves-half.ensures c.compare_with_halves-more.ensures
