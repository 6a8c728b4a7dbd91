-- What a file tells as a disk, and what each call of the disk leaves of it.
use Rattle.std.specs.Prelude.{◌≡◌, ◌<◌, ℕ, Option, Some, None, Result, Ok, Err, [], false}
use Rattle.ss_outside.specs.Disk.{DiskView}
use Rattle.ss_file.specs.Opening.{StaysHeld, StaysUnmade}
use Rattle.ss_file.specs.System.{Fact, Unwritten}
use Rattle.ss_file.specs.declared.reason.Reason.{Reason}
use Rattle.ss_file.specs.declared.opening.Missing.{Missing}
use Rattle.ss_file.specs.declared.opening.Opened.{Opened}

-- nothing but how many calls have failed
abbrev pub untold : ℕ → DiskView
untold faults = record {
  tells = false;
  told = record { content = []; may_leave = λ _. ⊥; moment = 0; left_since = λ _ _. ⊥; syncs = 0 };
  faults = faults;
}

-- What a call leaves of a file: what is done where there is none stays the same, what stands open stays open and locked, and
-- where no file is to be made, none is.
pub record KeepsFile (was : Missing) (opened : Option Opened) (holds : Fact → Type 0) (is : Missing) (opened_now : Option Opened)
    (holds_now : Fact → Type 0) : Type 0 where
  pub missing : is ≡ was
  pub held : StaysHeld was opened holds → StaysHeld is opened_now holds_now
  pub unmade : StaysUnmade was holds holds_now

-- A call that doesn't write leaves of a file what any call does, and where nothing was written, nothing is.
pub record LooksAtFile (was : Missing) (opened : Option Opened) (holds : Fact → Type 0) (is : Missing) (opened_now : Option Opened)
    (holds_now : Fact → Type 0) : Type 0 where
  pub keeps : KeepsFile was opened holds is opened_now holds_now
  pub unwritten : holds Unwritten → holds_now Unwritten

-- A call leaves the count of faults, and why the first one came, to its caller. After a fault it fails, and all is as it was.
pub record EndsAfterFault (was is : ℕ) (reason reason_now : Option Reason) (failed same : Type 0) : Type 0 where
  pub faults : is ≡ was
  pub why : reason_now ≡ reason
  pub ends : 0 < was → failed × same

-- no call has failed yet
abbrev pub IsFaultless : ℕ → Option Reason → Type 0
IsFaultless faults why = (faults ≡ 0) × (why ≡ None)

-- After a call of a file of which none had failed: none has, where it is answered, and else why it failed is kept, and has its cause.
abbrev pub TellsWhy : {T E : Type 0} → ℕ → Option Reason → (Reason → Type 0) → Result T E → Type 0
TellsWhy faults why IsCause (Ok value) = IsFaultless faults why
TellsWhy faults why IsCause (Err e) = (reason : Reason) × (why ≡ Some reason) × IsCause reason
