use Rattle.std.proofs.Common.{◌∙◌, ap}
use Rattle.ss_checksum.proofs.TableLemmas.{entries, entries-are}
use Rattle.ss_checksum.proofs.steps.after_four_and.Goals as goal

pub returns : goal.returns
returns c = ap (entries c.args.more) c.to_le_bytes.ensures ∙ entries-are c.args.more c.args.number c.requires c.ranges.number.fits
