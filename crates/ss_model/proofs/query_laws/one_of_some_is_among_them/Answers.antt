use Rattle.ss_model.proofs.PresenceLemmas.{Contains-is_one_of, is_one_of-Contains}
use Rattle.ss_model.proofs.query_laws.one_of_some_is_among_them.Goals as goal

pub returns : goal.returns
returns c v values = (Contains-is_one_of v values, is_one_of-Contains v values)
