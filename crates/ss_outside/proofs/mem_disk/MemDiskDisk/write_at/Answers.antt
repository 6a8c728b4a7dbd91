use Rattle.std.proofs.Common.{refl}
use Rattle.ss_outside.proofs.MemDiskCalls.{content_written, pending_written, time_written}
use Rattle.std.proofs.lemmas.Result.{on_ok_weaker}
use Rattle.ss_outside.proofs.mem_disk.MemDiskDisk.write_at.Goals as goal

pub returns-clause-step : goal.returns-clause-step
returns-clause-step c =
    let old = c.args.self.now in
    let new = c.write.new.self in
    let at = c.args.at in
    let bytes = c.args.bytes.now in
    let call = c.write.ensures in
    record {
      tells = refl;
      counted = call.cause;
      told = λ told. record {
        written = on_ok_weaker c.write.result (content_written old new at bytes) call.wrote;
        pending = pending_written old new at bytes call.sound_before call.sound c.write.result call.wrote call.failed;
        time = time_written old new at bytes c.write.result call.wrote call.failed;
      };
    }
