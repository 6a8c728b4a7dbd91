use Rattle.ss_program.specs.declared.status.Status.TheVariants.{DiskFault, RecordChanged, RefusedStore, SinkFault, Usage}
use Rattle.ss_program.proofs.Common.{◌≡◌, Option, Some, None, IsSome, refl, Mode}
use Rattle.ss_promises.proofs.promises.statuses_have_their_causes.Goals as goal

pub returns-clause-refused : goal.returns-clause-refused
returns-clause-refused g c mode held holds faults faulted number ends some is told = rw ((ends some RefusedStore is).refused refl told).is_line

pub returns-clause-refused_unwritten : goal.returns-clause-refused_unwritten
returns-clause-refused_unwritten g c mode held holds faults faulted number ends some status is told refused =
    ((ends some status is).disk.told told refused).unwritten

-- a fact of a status, by whether the arguments are known
by-mode : {A : Type 0} (mode : Option Mode) → (IsSome mode → A) → (mode ≡ None → A) → A
by-mode None some none = none refl
by-mode (Some mode) some none = some refl

pub returns-clause-usage : goal.returns-clause-usage
returns-clause-usage g c mode held holds faults faulted number ends is =
    by-mode mode (λ some. absurd ((ends some Usage is).known refl)) (λ none. none)

pub returns-clause-faults : goal.returns-clause-faults
returns-clause-faults g c mode held holds faults faulted number ends rejects = (
  λ is. by-mode mode (λ some. (ends some DiskFault is).disk.counted.1) (λ none. absurd (rejects none DiskFault is)),
  λ is. by-mode mode (λ some. ((ends some SinkFault is).sink (λ w. cc)).1) (λ none. absurd (rejects none SinkFault is)),
  λ is told. by-mode mode (λ some. (ends some RecordChanged is).firm refl told) (λ none. rejects none RecordChanged is),
)
