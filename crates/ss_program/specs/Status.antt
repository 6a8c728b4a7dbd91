-- The exit statuses.
use Rattle.std.specs.Prelude.{◌≡◌, ℕ, Bool, IsTrue, Result, Ok, Err, IfErr, OnOk, ⊤}
use Rattle.ss_outside.specs.Verdict.{Counted, Verdict, failed, fine}
use Rattle.ss_program.specs.declared.status.Status.{Status}
use Rattle.ss_program.specs.declared.status.Status.TheVariants.{
  Done,
  Usage,
  RefusedStore,
  DiskFault,
  SourceFault,
  SinkFault,
  OutOfMemory,
  InputLimit,
  RecordChanged,
}

-- the exit status as a number
abbrev pub exit_number : Status → ℕ
exit_number Done = 0
exit_number Usage = 2
exit_number RefusedStore = 3
exit_number DiskFault = 4
exit_number SourceFault = 5
exit_number SinkFault = 6
exit_number OutOfMemory = 7
exit_number InputLimit = 8
exit_number RecordChanged = 9

-- What ends a run at a call of the store that reads: the disk failed, or a record has changed, on a disk that doesn't tell.
abbrev pub IsDiskStop : Bool → Status → Type 0
IsDiskStop tells DiskFault = ⊤
IsDiskStop tells RecordChanged = IsTrue tells → ⊥
IsDiskStop tells status = ⊥

-- and at one that applies an event: also, memory ran out
abbrev pub IsApplyStop : Bool → Status → Type 0
IsApplyStop tells OutOfMemory = ⊤
IsApplyStop tells status = IsDiskStop tells status

-- and where what the store says is sent: also, the sink failed
abbrev pub IsShowStop : Bool → Status → Type 0
IsShowStop tells SinkFault = ⊤
IsShowStop tells status = IsDiskStop tells status

-- what ends a run at a line
abbrev pub IsStop : Bool → Status → Type 0
IsStop tells SinkFault = ⊤
IsStop tells status = IsApplyStop tells status

-- how a run ends whose store was opened
abbrev pub EndsServing : Bool → Status → Type 0
EndsServing tells Done = ⊤
EndsServing tells SourceFault = ⊤
EndsServing tells InputLimit = ⊤
EndsServing tells status = IsStop tells status

-- the verdict at a device of a run that ends with a status, which is that of a failure of the device or another
abbrev pub disk_verdict : Status → Verdict
disk_verdict DiskFault = failed
disk_verdict status = fine

abbrev pub source_verdict : Status → Verdict
source_verdict SourceFault = failed
source_verdict status = fine

abbrev pub sink_verdict : Status → Verdict
sink_verdict SinkFault = failed
sink_verdict status = fine

-- the status with which a call ends a run, or that of a run that is fine
abbrev pub ended : {T : Type 0} → Result T Status → Status
ended (Ok value) = Done
ended (Err status) = status

-- The run goes on after a call, and this is so then, or it stops with a status that has its cause. The sink's count goes by the answer.
pub record Continues {T : Type 0} (stop : Bool → Status → Type 0) (tells : Bool) (had has : ℕ) (then : Type 0) (result : Result T Status) : Type 0 where
  pub ready : OnOk result then
  pub status : IfErr result (stop tells)
  pub counted : Counted (sink_verdict (ended result)) had has

-- a number is that of a status
abbrev pub EndsAs : ℕ → Status → Type 0
EndsAs number status = number ≡ exit_number status
