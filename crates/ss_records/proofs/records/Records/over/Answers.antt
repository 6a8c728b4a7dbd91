use Rattle.ss_records.proofs.RecordLemmas.{AreKept-uncached}
use Rattle.ss_records.proofs.records.Records.over.Goals as goal

pub returns-clause-kept : goal.returns-clause-kept
returns-clause-kept c content is are =
    rw c.in_ok-pages.ensures (AreKept-uncached c.args.journal c.args.live content is c.requires.bounded are)
