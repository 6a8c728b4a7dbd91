use Rattle.std.proofs.Common.{refl}
use Rattle.ss_outside.proofs.MemDiskCalls.{time_synced, state_synced, content_synced, durable_synced, no_other_synced, same_synced, syncs_synced}
use Rattle.ss_outside.proofs.mem_disk.MemDiskDisk.sync.Goals as goal

pub returns-clause-step : goal.returns-clause-step
returns-clause-step c =
    let old = c.args.self.now in
    let new = c.make_sync.new.self in
    let result = c.make_sync.result in
    let call = c.make_sync.ensures in
    let state = state_synced old new result call.synced call.failed in
    record {
      tells = refl;
      counted = call.cause;
      told = λ told. record {
        durable = durable_synced old new result state;
        syncs = syncs_synced old new result call.synced;
        no_other = no_other_synced old new result state;
        pending = same_synced old new result call.failed;
        content = content_synced old new result state;
        time = time_synced old new result call.synced call.failed;
      };
    }
