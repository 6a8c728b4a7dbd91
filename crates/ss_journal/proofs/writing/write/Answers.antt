use Rattle.ss_journal.proofs.Common.{arith, length}
use Rattle.ss_outside.proofs.StepLemmas.{syncs-written}
use Rattle.ss_journal.proofs.StepLemmas.{step-from}
use Rattle.ss_journal.proofs.TearLemmas.{tears-write}
use Rattle.ss_journal.proofs.writing.write.Goals as goal

pub returns-clause-wrote : goal.returns-clause-wrote
returns-clause-wrote g c =
    step-from c.write_at.ensures (λ told wrote. record {
      tears = tears-write _ _ c.args.at (length c.args.bytes.now) (g.met.D.Disk.knows_now c.args.disk.now told) wrote.pending wrote.time;
      written = wrote.written;
    })

pub returns-clause-syncs : goal.returns-clause-syncs
returns-clause-syncs g c = step-from c.write_at.ensures (λ told wrote. omega (arith, syncs-written c.write_at.result wrote))
