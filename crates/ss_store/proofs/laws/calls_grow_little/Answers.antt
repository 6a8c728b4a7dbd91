use Rattle.ss_store.proofs.Extents.{GrowsLittle-applied, GrowsLittle-looked, GrowsLittle-sealed, records_in-kept}
use Rattle.ss_store.proofs.laws.calls_grow_little.Goals as goal

pub returns-clause-applied : goal.returns-clause-applied
returns-clause-applied g c event old new before after ack applies =
    GrowsLittle-applied event old new (g.D.Disk.seen before) (g.D.Disk.seen after) ack applies

pub returns-clause-sealed : goal.returns-clause-sealed
returns-clause-sealed g c = GrowsLittle-sealed

pub returns-clause-looked : goal.returns-clause-looked
returns-clause-looked g c v old new before after looks = GrowsLittle-looked v old new (g.D.Disk.seen before) (g.D.Disk.seen after) looks

pub returns-clause-held : goal.returns-clause-held
returns-clause-held g c = records_in-kept
