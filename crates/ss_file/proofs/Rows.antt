-- Worked rows of the definitions.
use Rattle.std.proofs.Common.{◌≡◌, ◌∙◌, ◌⊎◌, ℕ, true, false, List, [], ◌∷◌, ◌++◌, Option, Some, None}
use Rattle.std.proofs.Common.{Ok, Err, ◌≤◌, length, get_or, map, inl, inr, refl, sym, lit≤, arith}
use Rattle.std.proofs.lemmas.List.{get_or_past, get_or-append_right, length-append}
use Rattle.std.specs.IoError.{error_kind}
use Rattle.std.specs.Prelude.{IsFalse, IsTrue, codes}
use Rattle.std.specs.declared.io.Error.{Error}
use Rattle.std.specs.declared.io.ErrorKind.TheVariants.{InvalidInput, Other, ReadOnlyFilesystem}
use Rattle.ss_journal.specs.Format.{is_unborn}
use Rattle.ss_outside.specs.Verdict.{Rose}
use Rattle.ss_outside.specs.declared.source.Failed.{Failed}
use Rattle.ss_file.specs.FileDisk.{EndsAfterFault, IsFaultless, KeepsFile, LooksAtFile, TellsWhy, untold}
use Rattle.ss_file.specs.Opening.{IsBlank, IsHeldAs, IsLockedAs, IsNative, IsSettledAs, MayHold, StaysHeld, StaysUnmade, is_writable}
use Rattle.ss_file.specs.Opening.{makes}
use Rattle.ss_file.specs.Reason.{IsCaused, IsOwn, own}
use Rattle.ss_file.specs.System.{Absent, Counts, Found, GoesInto, InUse}
use Rattle.ss_file.specs.System.{Apart, Durable, Fact, FolderOpen, IsUnsyncable, Keeps, KeepsAll, LockedBy, OpenFor, RegularFile, Synced, Unmade, Unsyncable}
use Rattle.ss_file.specs.System.{Unwritten}
use Rattle.ss_file.specs.System.{lasts_lock, lasts_open, lasts_write}
use Rattle.ss_file.specs.declared.opening.Missing.{Missing}
use Rattle.ss_file.specs.declared.opening.Missing.TheVariants as missing
use Rattle.ss_file.specs.declared.opening.Opened.{Opened}
use Rattle.ss_file.specs.declared.opening.Opened.TheVariants.{Made, Nothing, ReadOnly, Writable}
use Rattle.ss_file.specs.declared.reason.Reason.{Reason}
use Rattle.ss_file.specs.declared.reason.Trouble.TheVariants.{FailedBefore, FolderNotOpened, Foreign, Full, Irregular, NoFile, NoFolder, NoName, NotChecked}
use Rattle.ss_file.specs.declared.reason.Trouble.TheVariants.{NotLocked, NotMakeable, NotOpened, NotRead, NotReadable, NotSynced, NotWritten, ReadOnlyWithWork}
use Rattle.ss_file.specs.declared.reason.Trouble.TheVariants as trouble
use Rattle.ss_file.specs.declared.system.Access.TheVariants.{Make, Read, Write}
use Rattle.ss_file.specs.declared.system.Kind.TheVariants.{Pipe, Regular}
use Rattle.ss_file.specs.declared.system.Lock.TheVariants.{Exclusive, Shared}
use Rattle.ss_file.specs.declared.system.Stream.TheVariants.{Output}

facts : List Fact
facts = Unmade ∷ Unwritten ∷ OpenFor Make ∷ Apart ∷ LockedBy Shared ∷ RegularFile ∷ Synced ∷ Unsyncable ∷ Durable ∷ Absent ∷ Found Pipe ∷ GoesInto Output ∷
    InUse ∷ FolderOpen ∷ []

-- what each call leaves
lasts_open-Make :
    map (lasts_open Make) facts ≡ false ∷ true ∷ false ∷ false ∷ false ∷ false ∷ false ∷ false ∷ false ∷ false ∷ false ∷ false ∷ false ∷ false ∷ []
unfolding facts
lasts_open-Make = refl

lasts_open-Read :
    map (lasts_open Read) facts ≡ true ∷ true ∷ false ∷ false ∷ false ∷ false ∷ false ∷ false ∷ false ∷ false ∷ false ∷ false ∷ false ∷ false ∷ []
unfolding facts
lasts_open-Read = refl

lasts_lock-facts :
    map lasts_lock facts ≡ true ∷ true ∷ true ∷ true ∷ false ∷ true ∷ true ∷ true ∷ true ∷ true ∷ true ∷ true ∷ false ∷ true ∷ []
unfolding facts
lasts_lock-facts = refl

lasts_write-facts :
    map lasts_write facts ≡ true ∷ false ∷ true ∷ true ∷ true ∷ true ∷ false ∷ true ∷ false ∷ true ∷ true ∷ true ∷ true ∷ true ∷ []
unfolding facts
lasts_write-facts = refl

Keeps-one : (old new : Fact → Type 0) → Keeps lasts_lock old new → old RegularFile → new RegularFile
Keeps-one old new keeps was = keeps RegularFile refl was

KeepsAll-one : (old new : Fact → Type 0) → KeepsAll old new → old Synced → new Synced
KeepsAll-one old new keeps was = keeps Synced was

-- which errors of a sync say that nothing can be synced
IsUnsyncable-input : (error : Error) → error_kind error ≡ InvalidInput → IsUnsyncable error
IsUnsyncable-input error is = inl is

IsUnsyncable-read_only : (error : Error) → error_kind error ≡ ReadOnlyFilesystem → IsUnsyncable error
IsUnsyncable-read_only error is = inr is

IsUnsyncable-other : (error : Error) → error_kind error ≡ Other → IsUnsyncable error → ⊥
IsUnsyncable-other error other (inl is) = let same = sym other ∙ is in cc
IsUnsyncable-other error other (inr is) = let same = sym other ∙ is in cc

lasts_open-Write :
    map (lasts_open Write) facts ≡ true ∷ true ∷ false ∷ false ∷ false ∷ false ∷ false ∷ false ∷ false ∷ false ∷ false ∷ false ∷ false ∷ false ∷ []
unfolding facts
lasts_open-Write = refl

-- which words make no file
makes-each : map makes (missing.Make ∷ missing.Fail ∷ missing.ReadEmpty ∷ missing.ReadFail ∷ []) ≡ true ∷ false ∷ false ∷ false ∷ []
makes-each = refl

-- what a file is opened and locked for
held-ReadOnly : (holds : Fact → Type 0) → IsHeldAs missing.Make ReadOnly holds →
    holds (OpenFor Read) × holds (LockedBy Shared) × holds RegularFile × holds Apart
held-ReadOnly holds (locked, regular, apart) = (locked.opened, locked.locked, regular, apart)

held-Writable : (holds : Fact → Type 0) → IsHeldAs missing.Make Writable holds →
    holds (OpenFor Make) × holds (LockedBy Exclusive) × holds RegularFile × holds Apart
held-Writable holds (locked, regular, apart) = (locked.opened, locked.locked, regular, apart)

held-Fail : (holds : Fact → Type 0) → IsHeldAs missing.Fail Writable holds →
    holds (OpenFor Write) × holds (LockedBy Exclusive) × holds RegularFile × holds Apart
held-Fail holds (locked, regular, apart) = (locked.opened, locked.locked, regular, apart)

held-Fail-made : (holds : Fact → Type 0) → IsHeldAs missing.Fail Made holds ⊎ IsHeldAs missing.Fail Nothing holds → ⊥
held-Fail-made holds (inl ((made, locked), regular, apart)) = cc
held-Fail-made holds (inr is) = cc

held-ReadFail : (holds : Fact → Type 0) →
    IsHeldAs missing.ReadFail Writable holds ⊎ IsHeldAs missing.ReadFail Made holds ⊎ IsHeldAs missing.ReadFail Nothing holds → ⊥
held-ReadFail holds (inl (locked, regular, apart)) = locked
held-ReadFail holds (inr (inl ((made, locked), regular, apart))) = cc
held-ReadFail holds (inr (inr is)) = cc

held-Made : (holds : Fact → Type 0) → IsHeldAs missing.Make Made holds →
    holds (OpenFor Make) × holds (LockedBy Exclusive) × holds RegularFile × holds Apart
held-Made holds ((made, locked), regular, apart) = (locked.opened, locked.locked, regular, apart)

-- where no file is made none is written
held-ReadEmpty : (holds : Fact → Type 0) → IsHeldAs missing.ReadEmpty Writable holds ⊎ IsHeldAs missing.ReadEmpty Made holds → ⊥
held-ReadEmpty holds (inl (locked, regular, apart)) = locked
held-ReadEmpty holds (inr ((made, locked), regular, apart)) = cc

held-Nothing : (holds : Fact → Type 0) → IsHeldAs missing.Make Nothing holds → ⊥
held-Nothing holds is = cc

locked-Nothing : (holds : Fact → Type 0) → IsLockedAs missing.ReadEmpty Nothing holds → ⊥
locked-Nothing holds is = is

stays_held : (holds : Fact → Type 0) (opened : Opened) → StaysHeld missing.Make (Some opened) holds → IsHeldAs missing.Make opened holds
stays_held holds opened is = is

-- what was made durable
settled-ReadOnly : (holds : Fact → Type 0) → IsSettledAs ReadOnly holds → holds Synced ⊎ holds Unsyncable
settled-ReadOnly holds is = is

settled-Writable : (holds : Fact → Type 0) → IsSettledAs Writable holds → holds Durable
settled-Writable holds is = is

settled-Made : (holds : Fact → Type 0) → IsSettledAs Made holds → holds Durable
settled-Made holds is = is

-- where no file is to be made
unmade-ReadEmpty : (old new : Fact → Type 0) → StaysUnmade missing.ReadEmpty old new → old Unmade → new Unmade
unmade-ReadEmpty old new stays was = stays refl was

unmade-Fail : (old new : Fact → Type 0) → StaysUnmade missing.Fail old new → old Unmade → new Unmade
unmade-Fail old new stays was = stays refl was

unmade-ReadFail : (old new : Fact → Type 0) → StaysUnmade missing.ReadFail old new → old Unmade → new Unmade
unmade-ReadFail old new stays was = stays refl was

-- what each call leaves of the file
keeps-missing : (was is : Missing) (opened opened_now : Option Opened) (holds holds_now : Fact → Type 0) →
    KeepsFile was opened holds is opened_now holds_now → is ≡ was
keeps-missing was is opened opened_now holds holds_now keeps = keeps.missing

keeps-held : (was is : Missing) (opened opened_now : Option Opened) (holds holds_now : Fact → Type 0) →
    KeepsFile was opened holds is opened_now holds_now → StaysHeld was opened holds → StaysHeld is opened_now holds_now
keeps-held was is opened opened_now holds holds_now keeps held = keeps.held held

keeps-unmade : (is : Missing) (opened opened_now : Option Opened) (holds holds_now : Fact → Type 0) →
    KeepsFile missing.ReadEmpty opened holds is opened_now holds_now → holds Unmade → holds_now Unmade
keeps-unmade is opened opened_now holds holds_now keeps was = keeps.unmade refl was

looks-keeps : (was is : Missing) (opened opened_now : Option Opened) (holds holds_now : Fact → Type 0) →
    LooksAtFile was opened holds is opened_now holds_now → KeepsFile was opened holds is opened_now holds_now
looks-keeps was is opened opened_now holds holds_now looks = looks.keeps

looks-unwritten : (was is : Missing) (opened opened_now : Option Opened) (holds holds_now : Fact → Type 0) →
    LooksAtFile was opened holds is opened_now holds_now → holds Unwritten → holds_now Unwritten
looks-unwritten was is opened opened_now holds holds_now looks unwritten = looks.unwritten unwritten

-- what a fault leaves of the calls after it
ends-faults : (failed same : Type 0) (is : ℕ) (why why_now : Option Reason) → EndsAfterFault 1 is why why_now failed same → is ≡ 1
ends-faults failed same is why why_now ends = ends.faults

ends-why : (failed same : Type 0) (is : ℕ) (why why_now : Option Reason) → EndsAfterFault 0 is why why_now failed same → why_now ≡ why
ends-why failed same is why why_now ends = ends.why

ends-first : (failed same : Type 0) (is : ℕ) (why why_now : Option Reason) → EndsAfterFault 1 is why why_now failed same → failed × same
ends-first failed same is why why_now ends = ends.ends (omega arith)

-- a disk of which no call has failed has no reason, and one that has a reason had a fault
faultless-none : IsFaultless 0 None
faultless-none = (refl, refl)

faultless-one : IsFaultless 1 None → ⊥
faultless-one none = omega (arith, none.0)

faultless-why : (reason : Reason) → IsFaultless 0 (Some reason) → ⊥
faultless-why reason none = let wrong = none.1 in cc

-- a call that is answered leaves such a disk, and one that fails the reason with its cause
module _ (faults : ℕ) (why : Option Reason) (P : Reason → Type 0) where
  tells_why-Ok : TellsWhy {T = ℕ} {E = Failed} faults why P (Ok 7) → IsFaultless faults why
  tells_why-Ok tells = tells

  tells_why-Err : (e : Failed) → TellsWhy {T = ℕ} {E = Failed} faults why P (Err e) → (reason : Reason) × (why ≡ Some reason) × P reason
  tells_why-Err e tells = tells

-- a reason with an error of the system wants a call that failed since
module _ (path : List ℕ) (opened : Option Opened) (holds : Fact → Type 0) (fits : List ℕ → Type 0) (error : Error) where
  caused-error : IsCaused path opened holds fits 3 4 (record { trouble = NotRead; error = Some error })
  caused-error = (λ _. lit≤ tt, λ none. cc)

  uncaused-error : IsCaused path opened holds fits 3 3 (record { trouble = NotRead; error = Some error }) → ⊥
  uncaused-error caused = let rose : Rose 3 3 = caused.0 refl in omega (arith, rose)

-- and one without is one of these, with what it is of
module _ (holds : Fact → Type 0) (fits : List ℕ → Type 0) where
  own-NoName : IsOwn [] None holds fits NoName
  own-NoName = refl

  own-NoName-named : IsOwn (codes "a") None holds fits NoName → ⊥
  own-NoName-named is = cc

  own-Irregular : IsOwn [] None holds fits (Irregular Pipe) → holds (Found Pipe)
  own-Irregular is = is.0

  own-Irregular-file : IsOwn [] None holds fits (Irregular Regular) → ⊥
  own-Irregular-file is = is.1 refl

  own-Stream : IsOwn [] None holds fits (trouble.Stream Output) → holds (GoesInto Output)
  own-Stream is = is

  own-InUse : IsOwn [] None holds fits trouble.InUse → holds InUse
  own-InUse is = is

  own-NoFile : IsOwn [] None holds fits NoFile → holds Absent
  own-NoFile (inl absent) = absent
  own-NoFile (inr is) = cc

  own-NoFile-nothing : IsOwn [] (Some Nothing) holds fits NoFile
  own-NoFile-nothing = inr refl

  own-ReadOnly : IsOwn [] (Some ReadOnly) holds fits trouble.ReadOnly
  own-ReadOnly = refl

  own-ReadOnly-writable : IsOwn [] (Some Writable) holds fits trouble.ReadOnly → ⊥
  own-ReadOnly-writable is = cc

  own-ReadOnlyWithWork : IsOwn [] (Some ReadOnly) holds fits ReadOnlyWithWork
  own-ReadOnlyWithWork = refl

  own-ReadOnlyWithWork-writable : IsOwn [] (Some Writable) holds fits ReadOnlyWithWork → ⊥
  own-ReadOnlyWithWork-writable is = cc

  own-Foreign : IsOwn [] None holds fits Foreign → (image : List ℕ) → fits image → IsNative image → ⊥
  own-Foreign is = is

  -- no other comes without an error
  own-FailedBefore : IsOwn [] None holds fits FailedBefore → ⊥
  own-FailedBefore is = is

  own-NotRead : IsOwn [] None holds fits NotRead → ⊥
  own-NotRead is = is

  own-NotWritten : IsOwn [] None holds fits NotWritten → ⊥
  own-NotWritten is = is

  own-NotSynced : IsOwn [] None holds fits NotSynced → ⊥
  own-NotSynced is = is

  own-NotOpened : IsOwn [] None holds fits NotOpened → ⊥
  own-NotOpened is = is

  own-NotLocked : IsOwn [] None holds fits NotLocked → ⊥
  own-NotLocked is = is

  own-FolderNotOpened : IsOwn [] None holds fits FolderNotOpened → ⊥
  own-FolderNotOpened is = is

  own-NoFolder : IsOwn [] None holds fits NoFolder → ⊥
  own-NoFolder is = is

  own-NotReadable : IsOwn [] None holds fits NotReadable → ⊥
  own-NotReadable is = is

  own-NotMakeable : IsOwn [] None holds fits NotMakeable → ⊥
  own-NotMakeable is = is

  own-Full : IsOwn [] None holds fits Full → ⊥
  own-Full is = is

  own-NotChecked : IsOwn [] None holds fits NotChecked → ⊥
  own-NotChecked is = is

-- a call of the system that fails raises the count, and one that is answered leaves it
Counts-Err : (error : Error) → Counts {T = ℕ} 3 3 (Err error) → ⊥
Counts-Err error counts = let rose : Rose 3 3 = counts.1 in omega (arith, rose)

Counts-Ok : (now : ℕ) → Counts {T = ℕ} 3 now (Ok 7) → now ≡ 3
Counts-Ok now counts = counts

-- a reason that the system didn't give
own-trouble : map (λ trouble. (own trouble).trouble) (NotChecked ∷ NoFile ∷ []) ≡ NotChecked ∷ NoFile ∷ []
own-trouble = refl

own-error : (own NotChecked).error ≡ None
own-error = refl

writable-each :
    map is_writable (None ∷ Some Nothing ∷ Some ReadOnly ∷ Some Writable ∷ Some Made ∷ [])
    ≡ false ∷ false ∷ false ∷ true ∷ true ∷ []
writable-each = refl

-- a byte in front of the first slot is none of a slot, and one at its place is
blank-front : (front : List ℕ) → length front ≡ 36863 → IsBlank (front ++ 7 ∷ [])
blank-front front long place from = get_or_past (front ++ 7 ∷ []) place 0 (omega (arith, long, from, length-append front (7 ∷ [])))

blank-slot : (front : List ℕ) → length front ≡ 36864 → IsBlank (front ++ 7 ∷ []) → ⊥
blank-slot front long blank =
    let here : get_or (front ++ 7 ∷ []) 36864 0 ≡ 7 = get_or-append_right front (7 ∷ []) 36864 36864 0 long (omega arith) in
    let zero : get_or (front ++ 7 ∷ []) 36864 0 ≡ 0 = blank 36864 (omega arith) in
    omega (arith, here, zero)

-- only what isn't formatted has to be blank
native-born : (image : List ℕ) → IsFalse (is_unborn image) → IsNative image
native-born image born unborn = let same : true ≡ false = sym unborn ∙ born in absurd cc

native-unborn : (image : List ℕ) → IsTrue (is_unborn image) → IsNative image → IsBlank image
native-unborn image unborn native = native unborn

-- what a disk may hold
holds-Nothing : (fits : List ℕ → Type 0) (image : List ℕ) → MayHold (Some Nothing) fits image → image ≡ []
holds-Nothing fits image is = is

holds-ReadOnly : (fits : List ℕ → Type 0) (image : List ℕ) → fits image → MayHold (Some ReadOnly) fits image
holds-ReadOnly fits image is = is

holds-Writable : (fits : List ℕ → Type 0) (image : List ℕ) → fits image → MayHold (Some Writable) fits image
holds-Writable fits image is = is

holds-Made : (fits : List ℕ → Type 0) (image : List ℕ) → fits image → MayHold (Some Made) fits image
holds-Made fits image is = is

untold-five : (untold 5).faults ≡ 5
untold-five = refl

untold-tells : (untold 5).tells ≡ false
untold-tells = refl
