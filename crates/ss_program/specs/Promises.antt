-- What a run promises, as its clauses and the laws of them name it.
use Rattle.std.specs.Prelude.{◌≡◌, ℕ, List, IsSome, IsTrue, Option, Some, None}
use Rattle.ss_arguments.specs.declared.mode.Form.{Form}
use Rattle.ss_arguments.specs.declared.mode.Mode.{Mode}
use Rattle.ss_arguments.specs.declared.mode.Mode.TheVariants.{Check, Gen}
use Rattle.ss_arguments.specs.declared.mode.Sealing.{Sealing}
use Rattle.ss_outside.specs.Disk.{Between, DiskView, NothingPending}
use Rattle.ss_store.specs.Recover.{Stands}
use Rattle.ss_program.specs.Checked.{ChecksStore}
use Rattle.ss_program.specs.Devices.{Devices}
use Rattle.ss_program.specs.Ending.{Ends, Rejects, served_by, serving}
use Rattle.ss_program.specs.Generated.{GeneratesFrom}
use Rattle.ss_program.specs.Line.{History}
use Rattle.ss_program.specs.Outcome.{ServesInput}
use Rattle.ss_program.specs.Status.{EndsAs}
use Rattle.ss_program.specs.declared.status.Status.{Status}

-- How a run ends that answers this number, by what its arguments ask for: for a mode, or for none.
abbrev pub FinishesBy : Option Mode → Devices → Devices → ℕ → Type 0
FinishesBy mode old new number = IsSome mode → (status : Status) → EndsAs number status → Ends old new status

abbrev pub RejectsBy : Option Mode → Devices → Devices → ℕ → Type 0
RejectsBy mode old new number = mode ≡ None → (status : Status) → EndsAs number status → Rejects old new status

-- What it leaves where they ask for a run over the source, by what the source and the sink tell before and after.
abbrev pub ServesBy : Option Mode → DiskView → DiskView → Option (List ℕ) → Option (List ℕ) → Option (List ℕ) → Option (List ℕ) → ℕ → Type 0
ServesBy mode old new left rest before after number =
    (form : Form) → (sealing : Sealing) → served_by mode ≡ Some (serving form sealing) → (status : Status) → EndsAs number status →
    (input : List ℕ) → left ≡ Some input → Between old new (ServesInput form sealing input rest before after status)

-- where they ask for a check
abbrev pub ChecksBy : Option Mode → DiskView → DiskView → Option (List ℕ) → Option (List ℕ) → ℕ → Type 0
ChecksBy mode old new before after number =
    mode ≡ Some Check → (status : Status) → EndsAs number status → Between old new (ChecksStore before after status)

-- and where they ask for a generated file
abbrev pub GeneratesBy : Option Mode → DiskView → DiskView → Option (List ℕ) → Option (List ℕ) → ℕ → Type 0
GeneratesBy mode old new before after number =
    (seed count : ℕ) → mode ≡ Some (Gen seed count) → (status : Status) → EndsAs number status →
    Between old new (GeneratesFrom seed count before after status)

-- The arguments ask for a run over the source, whose input has this form and whose events come to the disk in this way; the store's disk tells that it holds
-- this history, with nothing pending; and the source tells that these bytes are its input.
pub record BeginsOver (form : Form) (sealing : Sealing) (mode : Option Mode) (disk : DiskView) (left : Option (List ℕ)) (history : History)
    (input : List ℕ) : Type 0 where
  pub asked : served_by mode ≡ Some (serving form sealing)
  pub tells : IsTrue disk.tells
  pub durable : NothingPending disk.told
  pub stands : Stands history disk.told.content
  pub source : left ≡ Some input
