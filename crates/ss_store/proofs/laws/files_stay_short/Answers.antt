use Rattle.ss_store.proofs.Extents.{extent-AllGrowLittle, length-AllGrowLittle}
use Rattle.ss_store.proofs.laws.files_stay_short.Goals as goal

pub returns-clause-extent : goal.returns-clause-extent
returns-clause-extent g c = extent-AllGrowLittle

pub returns-clause-bytes : goal.returns-clause-bytes
returns-clause-bytes g c old new = length-AllGrowLittle (g.D.Disk.seen old).told (g.D.Disk.seen new).told
