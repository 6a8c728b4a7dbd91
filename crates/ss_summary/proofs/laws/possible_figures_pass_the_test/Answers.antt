use Rattle.ss_summary.proofs.PossibleLemmas.{is_possible-tells}
use Rattle.ss_summary.proofs.laws.possible_figures_pass_the_test.Goals as goal

pub returns : goal.returns
returns c = is_possible-tells
