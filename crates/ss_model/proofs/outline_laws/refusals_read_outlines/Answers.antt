use Rattle.ss_model.proofs.OutlineLemmas.{refuses-outlines}
use Rattle.ss_model.proofs.outline_laws.refusals_read_outlines.Goals as goal

pub returns : goal.returns
returns c = refuses-outlines
