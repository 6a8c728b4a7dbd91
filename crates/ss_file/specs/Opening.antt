-- What the file of a store was opened as.
use Rattle.std.specs.Prelude.{◌≡◌, ◌⊎◌, ◌≤◌, ℕ, List, [], slice_index, Bool, true, false}
use Rattle.std.specs.Prelude.{IsTrue, Option, Some, None, ⊤}
use Rattle.ss_journal.specs.Format.{is_unborn}
use Rattle.ss_journal.specs.declared.format.TheConstants.{FIRST_SLOT}
use Rattle.ss_file.specs.System.{Fact, Unmade, OpenFor, Apart, LockedBy, RegularFile, Synced, Unsyncable, Durable}
use Rattle.ss_file.specs.declared.opening.Missing.{Missing}
use Rattle.ss_file.specs.declared.opening.Missing.TheVariants.{Make, Fail, ReadEmpty, ReadFail}
use Rattle.ss_file.specs.declared.opening.Opened.{Opened}
use Rattle.ss_file.specs.declared.opening.Opened.TheVariants.{Nothing, ReadOnly, Writable, Made}
use Rattle.ss_file.specs.declared.system.Access.{Access}
use Rattle.ss_file.specs.declared.system.Access.TheVariants.{Read}
use Rattle.ss_file.specs.declared.system.Access.TheVariants as access
use Rattle.ss_file.specs.declared.system.Lock.{Lock}
use Rattle.ss_file.specs.declared.system.Lock.TheVariants.{Exclusive, Shared}

-- whether a file is made where there is none
abbrev pub makes : Missing → Bool
makes Make = true
makes Fail = false
makes ReadEmpty = false
makes ReadFail = false

-- the file is open for this, and locked so
pub record IsLocked (access : Access) (how : Lock) (holds : Fact → Type 0) : Type 0 where
  pub opened : holds (OpenFor access)
  pub locked : holds (LockedBy how)

-- how a file is held that is written: it is locked against every other opening, and opened so that none is made where none is to be
abbrev pub IsLockedToWrite : Missing → (Fact → Type 0) → Type 0
IsLockedToWrite Make holds = IsLocked access.Make Exclusive holds
IsLockedToWrite Fail holds = IsLocked access.Write Exclusive holds
IsLockedToWrite ReadEmpty holds = ⊥
IsLockedToWrite ReadFail holds = ⊥

-- a file that is only read is locked against those that write
abbrev pub IsLockedAs : Missing → Opened → (Fact → Type 0) → Type 0
IsLockedAs missing Nothing holds = ⊥
IsLockedAs missing ReadOnly holds = IsLocked Read Shared holds
IsLockedAs missing Writable holds = IsLockedToWrite missing holds
IsLockedAs missing Made holds = (missing ≡ Make) × IsLocked access.Make Exclusive holds

-- what stands open is a regular file, locked, and no standard stream goes into it; nothing does only where it is read as empty
abbrev pub IsHeldAs : Missing → Opened → (Fact → Type 0) → Type 0
IsHeldAs missing Nothing holds = missing ≡ ReadEmpty
IsHeldAs missing ReadOnly holds = IsLockedAs missing ReadOnly holds × holds RegularFile × holds Apart
IsHeldAs missing Writable holds = IsLockedAs missing Writable holds × holds RegularFile × holds Apart
IsHeldAs missing Made holds = IsLockedAs missing Made holds × holds RegularFile × holds Apart

-- the same of a disk, once it was opened
abbrev pub StaysHeld : Missing → Option Opened → (Fact → Type 0) → Type 0
StaysHeld missing None holds = ⊤
StaysHeld missing (Some opened) holds = IsHeldAs missing opened holds

-- what was made durable before anything is read
abbrev pub IsSettledAs : Opened → (Fact → Type 0) → Type 0
IsSettledAs Nothing holds = ⊤
IsSettledAs ReadOnly holds = holds Synced ⊎ holds Unsyncable
IsSettledAs Writable holds = holds Durable
IsSettledAs Made holds = holds Durable

-- where no file is to be made, none is
abbrev pub StaysUnmade : Missing → (Fact → Type 0) → (Fact → Type 0) → Type 0
StaysUnmade missing old new = makes missing ≡ false → old Unmade → new Unmade

-- whether something can be written
abbrev pub is_writable : Option Opened → Bool
is_writable None = false
is_writable (Some Nothing) = false
is_writable (Some ReadOnly) = false
is_writable (Some Writable) = true
is_writable (Some Made) = true

-- no byte other than 0 lies where slots lie, or after them
abbrev pub IsBlank : List ℕ → Type 0
IsBlank image = (place : ℕ) → FIRST_SLOT ≤ place → slice_index image place ≡ 0

-- an image that is a store's, or may be made one
abbrev pub IsNative : List ℕ → Type 0
IsNative image = IsTrue (is_unborn image) → IsBlank image

-- an image that a disk may hold: an empty one where there is no file, and else one that fits what was read
abbrev pub MayHold : Option Opened → (List ℕ → Type 0) → List ℕ → Type 0
MayHold (Some Nothing) fits image = image ≡ []
MayHold (Some ReadOnly) fits image = fits image
MayHold (Some Writable) fits image = fits image
MayHold (Some Made) fits image = fits image
MayHold None fits image = fits image
