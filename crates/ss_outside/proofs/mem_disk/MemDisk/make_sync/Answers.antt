use Rattle.std.proofs.Common.{ap, arith}
use Rattle.ss_outside.specs.Past.{PastState}
use Rattle.ss_outside.proofs.MemDiskLemmas.{kept_synced}
use Rattle.ss_outside.proofs.mem_disk.MemDisk.make_sync.Goals as goal

pub invariant_of-self-in_default : goal.invariant_of-self-in_default
invariant_of-self-in_default c =
    let kept = kept_synced _ _ c.sync.new.self.calls _ c.self.invariant.1 (ap (λ (p : PastState). p.calls) c.in_default.ensures.added) c.self.invariant.0 in
    (kept.0, kept.1, omega (arith, c.self.invariant.2, ap (λ (p : PastState). p.spare_bytes) c.in_default.ensures.added))

pub returns-clause-sound : goal.returns-clause-sound
returns-clause-sound c = (invariant_of-self-in_default c).1
