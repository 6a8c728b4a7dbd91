use Rattle.std.proofs.Common.{ap, ◌∙◌}
use Rattle.ss_outside.specs.MemDisk.{DiskState}
use Rattle.ss_outside.proofs.MemDiskLemmas.{replay_synced}
use Rattle.ss_outside.proofs.mem_disk.filled.Goals as goal

pub returns : goal.returns
returns c =
    let synced = c.in_ok-image.ensures ∙ ap (λ (s : DiskState). s.content) (c.synced-synced.ensures.nothing_pending c.args.start.now) in
    rw (replay_synced c.args.start.now c.args.past.now.calls c.synced-synced.result c.synced-synced.ensures) (rw synced at c.in_ok-fill.ensures)
