use Rattle.ss_laws.proofs.ExpMeasures.{length-line, length-newest}
use Rattle.ss_laws.proofs.exp_laws.exp_lengths_grow_with_age.Goals as goal

pub returns : goal.returns
returns c = record { line = length-line; newest = length-newest }
