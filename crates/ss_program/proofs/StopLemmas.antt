-- The statuses at which lines that share seals stop a run.
use Rattle.ss_program.proofs.Common.{◌≡◌, Bool, IsDiskStop, IsStop, Status, Done, OutOfMemory}

-- memory doesn't run out at a call that reads
pub going-disk : (tells : Bool) (status : Status) → IsDiskStop tells status → status ≡ OutOfMemory → ⊥
going-disk tells status stop is = rw is at stop

-- a run that stops isn't done
pub going-stop : (tells : Bool) (status : Status) → IsStop tells status → status ≡ Done → ⊥
going-stop tells status stop is = rw is at stop
