use Rattle.ss_arguments.proofs.ModeLemmas.{mode_of-option}
use Rattle.ss_arguments.proofs.laws.options_ask_for_no_mode.Goals as goal

pub returns : goal.returns
returns c = mode_of-option
