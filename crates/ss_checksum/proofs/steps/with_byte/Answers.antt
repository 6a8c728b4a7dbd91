use Rattle.ss_checksum.proofs.TableLemmas.{table-step}
use Rattle.ss_checksum.proofs.steps.with_byte.Goals as goal

pub returns : goal.returns
returns c = rw c.from.ensures (table-step c.args.state c.args.byte c.ranges.byte.fits)
