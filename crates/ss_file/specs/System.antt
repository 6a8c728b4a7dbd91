-- What calls of the system lead to, and which of it later calls leave.
use Rattle.std.specs.Prelude.{◌≡◌, ◌⊎◌, ℕ, Bool, true, false, IsTrue, Result, Ok, Err}
use Rattle.std.specs.IoError.{error_kind}
use Rattle.std.specs.declared.io.Error.{Error}
use Rattle.std.specs.declared.io.ErrorKind.TheVariants.{InvalidInput, ReadOnlyFilesystem}
use Rattle.ss_outside.specs.Verdict.{Counted, failed, fine}
use Rattle.ss_file.specs.declared.system.Access.{Access}
use Rattle.ss_file.specs.declared.system.Access.TheVariants.{Make, Read, Write}
use Rattle.ss_file.specs.declared.system.Kind.{Kind}
use Rattle.ss_file.specs.declared.system.Lock.{Lock}
use Rattle.ss_file.specs.declared.system.Stream.{Stream}

-- What is known of the system and of the file that is open: nothing was made, nothing was written, what it was opened for, that
-- no standard stream goes into it, how it is locked, that it is a regular file, that what it holds was synced or can't be, that its
-- folder is open, and that its name was made durable after it. And what keeps a file from being used: nothing has the path, of which
-- kind what was found is, which standard stream goes into it, and that another opening has a lock that keeps this one away.
pub data Fact : Type 0 where
  Unmade : Fact
  Unwritten : Fact
  OpenFor : Access → Fact
  Apart : Fact
  LockedBy : Lock → Fact
  RegularFile : Fact
  Synced : Fact
  Unsyncable : Fact
  FolderOpen : Fact
  Durable : Fact
  Absent : Fact
  Found : Kind → Fact
  GoesInto : Stream → Fact
  InUse : Fact

-- all that is known is left
abbrev pub KeepsAll : (Fact → Type 0) → (Fact → Type 0) → Type 0
KeepsAll old new = (fact : Fact) → old fact → new fact

-- what passes a test is left of what is known
abbrev pub Keeps : (Fact → Bool) → (Fact → Type 0) → (Fact → Type 0) → Type 0
Keeps lasts old new = (fact : Fact) → IsTrue (lasts fact) → old fact → new fact

-- what an opening leaves: that nothing was written, and that nothing was made, unless it may make a file
abbrev pub lasts_open : Access → Fact → Bool
lasts_open _ Unwritten = true
lasts_open Make Unmade = false
lasts_open Write Unmade = true
lasts_open Read Unmade = true
lasts_open _ _ = false

-- what a lock leaves: all but what was said of earlier locks
abbrev pub lasts_lock : Fact → Bool
lasts_lock (LockedBy _) = false
lasts_lock InUse = false
lasts_lock _ = true

-- what a write leaves: all but that nothing was written, and what was said of syncs
abbrev pub lasts_write : Fact → Bool
lasts_write Unwritten = false
lasts_write Synced = false
lasts_write Durable = false
lasts_write _ = true

-- an error of a sync that says that nothing can be synced here
abbrev pub IsUnsyncable : Error → Type 0
IsUnsyncable error = (error_kind error ≡ InvalidInput) ⊎ (error_kind error ≡ ReadOnlyFilesystem)

-- The count of faults over a call: it rose where the call failed, and else is as it was.
abbrev pub Counts : {T : Type 0} → ℕ → ℕ → Result T Error → Type 0
Counts before now (Ok value) = Counted fine before now
Counts before now (Err error) = Counted failed before now
