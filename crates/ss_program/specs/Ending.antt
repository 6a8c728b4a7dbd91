-- How a run ends.
use Rattle.std.specs.Prelude.{◌≡◌, ◌⊎◌, ◌≤◌, ℕ, List, IsSome, IsTrue, Option, Some, None, ⊤}
use Rattle.ss_arguments.specs.declared.mode.Mode.{Mode}
use Rattle.ss_arguments.specs.declared.mode.Mode.TheVariants.{Serve, Check, Gen}
use Rattle.ss_generator.specs.declared.TheConstants.{MOST_COUNT}
use Rattle.ss_outside.specs.Crash.{OnlyReads}
use Rattle.ss_outside.specs.Disk.{Between, Told}
use Rattle.ss_outside.specs.Step.{Step}
use Rattle.ss_outside.specs.Verdict.{Counted}
use Rattle.ss_store.specs.Recover.{recover}
use Rattle.ss_program.specs.Devices.{Devices}
use Rattle.ss_program.specs.Outcome.{TakesFew}
use Rattle.ss_program.specs.Refused.{RefusesStore, SaysRefusal, refusal_line}
use Rattle.ss_program.specs.Sent.{SaysLine}
use Rattle.ss_program.specs.Status.{disk_verdict, sink_verdict, source_verdict}
use Rattle.ss_program.specs.Words.{usage}
use Rattle.ss_arguments.specs.declared.mode.Form.{Form}
use Rattle.ss_arguments.specs.declared.mode.Sealing.{Sealing}
use Rattle.ss_program.specs.declared.status.Status.{Status}
use Rattle.ss_program.specs.declared.status.Status.TheVariants.{Done, Usage, RefusedStore, DiskFault, SourceFault, OutOfMemory, InputLimit, RecordChanged}

-- the content is no store, or is damaged
abbrev pub IsRefusedContent : List ℕ → Type 0
IsRefusedContent content = IsSome (refusal_line (recover content))

-- Over a content that is refused: nothing is written, whatever the status. The line is said or nothing is, and the run ends by it,
-- unless the disk failed before, or memory ran out.
pub record Refuses (before after : Option (List ℕ)) (status : Status) (old new : Told) : Type 0 where
  pub how : (status ≡ RefusedStore) ⊎ (status ≡ DiskFault) ⊎ (status ≡ OutOfMemory)
  pub unwritten : OnlyReads old new
  pub silent : (status ≡ RefusedStore → ⊥) → after ≡ before

-- How a run ends whose arguments are known, whatever they ask for: by its status, which devices failed, and what is said of a store
-- that is refused.
pub record Ends (old new : Devices) (status : Status) : Type 0 where
  pub known : status ≡ Usage → ⊥
  -- the disk is blamed exactly where its count of faults rose
  pub disk : Step (disk_verdict status) old.disk new.disk (λ a b. IsRefusedContent a.content → Refuses old.held new.held status a b)
  -- and so is the sink, but for the line that is said of a refused store, which may have failed to go out
  pub sink : (status ≡ RefusedStore → ⊥) → Counted (sink_verdict status) old.faults new.faults
  -- the line is that of what the definition finds first, and over a disk that tells nothing one of the four
  pub refused : status ≡ RefusedStore → Between old.disk new.disk (λ a b. RefusesStore a b old.held new.held old.faults new.faults)
  pub said : status ≡ RefusedStore → SaysRefusal old.held new.held old.faults new.faults
  -- no record has changed on a disk that tells
  pub firm : status ≡ RecordChanged → IsTrue old.disk.tells → ⊥

-- How a run ends whose arguments aren't known: the usage line is said, or memory ran out and nothing is.
abbrev pub Rejects : Devices → Devices → Status → Type 0
Rejects old new Usage = SaysLine usage old.held new.held old.faults new.faults
Rejects old new OutOfMemory = (new.held ≡ old.held) × (new.faults ≡ old.faults)
Rejects old new status = ⊥

-- a run is done, unless memory ran out
abbrev pub Completes : Status → Type 0
Completes Done = ⊤
Completes OutOfMemory = ⊤
Completes status = ⊥

-- A run that reads no input doesn't end by it, and says nothing unless it is done, its store is refused or the sink fails.
abbrev pub IsUnfed : Option (List ℕ) → Option (List ℕ) → Status → Type 0
IsUnfed before after SourceFault = ⊥
IsUnfed before after InputLimit = ⊥
IsUnfed before after DiskFault = after ≡ before
IsUnfed before after OutOfMemory = after ≡ before
IsUnfed before after RecordChanged = after ≡ before
IsUnfed before after status = ⊤

-- What a run leaves of its source: its count of faults rose exactly where it is blamed, no more bytes were taken of it than a run may
-- take, whether it tells them or not, and where the store is refused it is as it was.
pub record Feeds (same : Type 0) (faults_before faults taken_before taken : ℕ) (status : Status) : Type 0 where
  pub counted : Counted (source_verdict status) faults_before faults
  pub takes : TakesFew taken_before taken status
  pub unserved : status ≡ RefusedStore → same

-- A run that reads no input leaves its source as it was.
pub record Unfed (same : Type 0) (before after : Option (List ℕ)) (status : Status) : Type 0 where
  pub unread : same
  pub silent : IsUnfed before after status

-- the numbers of a generated file are those that a mode may have
abbrev pub HasNumbers : Mode → Type 0
HasNumbers (Serve form sealing) = ⊤
HasNumbers Check = ⊤
HasNumbers (Gen seed count) = (1 ≤ count) × (count ≤ MOST_COUNT)

-- how a run over the source goes: the form of its input, and which events come to the disk together
pub record Serving : Type 0 where
  pub form : Form
  pub sealing : Sealing

abbrev pub serving : Form → Sealing → Serving
serving form sealing = record { form = form; sealing = sealing }

-- where the arguments ask for one
abbrev pub served_by : Option Mode → Option Serving
served_by (Some (Serve form sealing)) = Some (serving form sealing)
served_by asked = None
